use Rattle.std.proofs.Common.{◌≡◌, ℕ, ◌<◌, ◌≤◌, true, false, refl, sym, ◌∙◌, ap₂, arith}
use Rattle.std.specs.Prelude.{nat_lt}
use Rattle.std.proofs.lemmas.Bool.Decides.{nat_tests}
use Rattle.long_text.specs.Longs.{joined, long_of, numbers_had}
use Rattle.long_text.specs.Pieces.{pieces}
use Rattle.long_text.specs.declared.refusal.LongRefusal.TheVariants.{NoLong, Parts}
use Rattle.long_text.proofs.Wholes.{all_stand, clash_stands, filled, none_stands, refused, too_few}
use Rattle.long_text.proofs.joining.long.Goals as goal

lt_true : (a b : ℕ) → a < b → nat_lt a b ≡ true
lt_true a b lt = grind (arith, nat_tests)

lt_false : (a b : ℕ) → b ≤ a → nat_lt a b ≡ false
lt_false a b le = grind (arith, nat_tests)

pub returns-in_default : goal.returns-in_default
unfolding long_of
returns-in_default c = refused _ _ NoLong _ refl (none_stands (pieces c.args.id c.args.inbox.now) (sym c.count_told.ensures.value ∙ c.in_default.is))

pub returns-in-Some-clash_in : goal.returns-in-Some-clash_in
unfolding long_of
returns-in-Some-clash_in c =
    refused _ _ c.in-Some-clash_in.refusal _ refl (clash_stands (pieces c.args.id c.args.inbox.now) c.in-Some.count c.in-Some-clash_in.refusal
    (sym c.count_told.ensures.value ∙ c.in-Some.is) (sym c.clash_in.ensures ∙ c.in-Some-clash_in.is))

pub returns-then-have-from : goal.returns-then-have-from
unfolding long_of
returns-then-have-from c =
    let list = pieces c.args.id c.args.inbox.now in
    let lt : nat_lt (numbers_had list) c.in-Some.count ≡ true = lt_true _ _ (omega (arith, c.numbers_had-have.ensures, c.from.ensures, c.if-have-from.true)) in
    refused _ _ (Parts (numbers_had list) c.in-Some.count) _ (ap₂ Parts c.numbers_had-have.ensures c.from-then-have-from.ensures)
    (too_few list c.in-Some.count (sym c.count_told.ensures.value ∙ c.in-Some.is) (sym c.clash_in.ensures ∙ c.in_default-clash_in.is) lt)

pub returns : goal.returns
unfolding long_of
returns c =
    let list = pieces c.args.id c.args.inbox.now in
    let lt : nat_lt (numbers_had list) c.in-Some.count ≡ false = lt_false _ _ (omega (arith, c.numbers_had-have.ensures, c.from.ensures, c.if-have-from.false)) in
    filled _ _ (joined list c.in-Some.count) _ _ c.join.ensures
    (all_stand list c.in-Some.count (sym c.count_told.ensures.value ∙ c.in-Some.is) (sym c.clash_in.ensures ∙ c.in_default-clash_in.is) lt)
