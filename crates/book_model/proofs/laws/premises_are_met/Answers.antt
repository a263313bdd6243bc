use Rattle.std.proofs.Common.{refl}
use Rattle.book_model.proofs.laws.premises_are_met.Goals as goal

pub returns-clause-alike : goal.returns-clause-alike
returns-clause-alike c = record {
  first_open = refl;
  second_open = refl;
  first_well = (refl, (refl, (refl, (refl, (refl, tt)))));
  second_well = (refl, (refl, (refl, (refl, (refl, (refl, (refl, (refl, tt))))))));
  kept = refl;
  asked = refl;
}

pub returns-clause-asked : goal.returns-clause-asked
returns-clause-asked c = refl

pub returns-clause-replies : goal.returns-clause-replies
returns-clause-replies c = refl

pub returns-clause-bobs : goal.returns-clause-bobs
returns-clause-bobs c = refl

pub returns-clause-carls : goal.returns-clause-carls
returns-clause-carls c = refl
