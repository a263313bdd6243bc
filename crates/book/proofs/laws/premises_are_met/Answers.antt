use Rattle.std.proofs.Common.{refl}
use Rattle.book.proofs.laws.premises_are_met.Goals as goal

pub returns-clause-alike : goal.returns-clause-alike
returns-clause-alike g c = λ annas bobs. record {
  first_open = refl;
  second_open = refl;
  first_well = (refl, (refl, (refl, (refl, tt))));
  second_well = (refl, (refl, (refl, (refl, (refl, tt)))));
  kept = refl;
  asked = refl;
}

pub returns-clause-replies : goal.returns-clause-replies
returns-clause-replies g c = λ annas bobs. refl
