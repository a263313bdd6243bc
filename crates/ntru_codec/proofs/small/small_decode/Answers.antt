use Rattle.std.proofs.Common.{◌≡◌, sym, refl, ap, subst, ◌∙◌, ◌/◌, ◌%◌, None, List, ℤ, arith, length-set, All}
use Rattle.std.proofs.lemmas.Bool.{false≢true}
use Rattle.ntru_ring.specs.Reduction.{IsWithin}
use Rattle.ntru_codec.specs.Small.{small_encoded, small_decoded, first_bad}
use Rattle.ntru_codec.proofs.SmallLaws.{small_encoded-decoded, encoded-good, small_decoded-within, goods, coefficients-more, coefficient-is, small_decoded-all}
use Rattle.ntru_codec.proofs.small.small_decode.Goals as goal

pub returns-in-Some-clause-exact : goal.returns-in-Some-clause-exact
returns-in-Some-clause-exact c = (
  λ e. absurd (false≢true e),
  λ x. absurd (let good : first_bad (small_encoded x.0.coefficients) ≡ None = encoded-good x.0.coefficients x.0.length x.0.within in
      let same = ap first_bad x.1 in
      let bad = c.in-Some.ensures in
      cc),
)

pub coefficient-requires : goal.coefficient-requires
coefficient-requires c =
    let good = goods c.args.bytes.now (sym c.in_default.ensures) (c.loop-i.i / 4) (omega arith) in
    let digit = good.digits (c.loop-i.i % 4) (omega arith) in
    omega arith

pub loop-i-preserved : goal.loop-i-preserved
loop-i-preserved c =
    let is = coefficient-is c.args.bytes.now c.loop-i.i c.digit_of.result c.coefficient.result c.coefficient.ensures.within c.digit_of.ensures c.coefficient.ensures.value in
    record {
      whole = rw length-set c.loop-i.invariant.whole;
      written = coefficients-more c.args.bytes.now c.loop-i.coefficients c.loop-i.i _ (omega arith) is c.loop-i.invariant.written;
    }

pub new-requires : goal.new-requires
new-requires c =
    let all : c.loop-i.coefficients ≡ small_decoded c.args.bytes.now = small_decoded-all c.args.bytes.now c.loop-i.coefficients c.loop-i.invariant.whole (λ j h. c.loop-i.invariant.written j (omega arith)) in
    let P : List ℤ → Type 0 = λ a. All (IsWithin 1) a in
    subst P (sym all) (small_decoded-within c.args.bytes.now (sym c.in_default.ensures))

pub returns-clause-value : goal.returns-clause-value
returns-clause-value c =
    c.new.ensures ∙ small_decoded-all c.args.bytes.now c.loop-i.coefficients c.loop-i.invariant.whole (λ j h. c.loop-i.invariant.written j (omega arith))

pub returns-clause-element : goal.returns-clause-element
returns-clause-element c =
    let is : c.new.result.coefficients ≡ small_decoded c.args.bytes.now = c.new.ensures ∙ small_decoded-all c.args.bytes.now c.loop-i.coefficients c.loop-i.invariant.whole (λ j h. c.loop-i.invariant.written j (omega arith)) in
    ap small_encoded is ∙ small_encoded-decoded c.args.bytes.now c.told-bytes (λ i. let fits = c.fits-bytes i in omega arith) (sym c.in_default.ensures)

pub returns-clause-exact : goal.returns-clause-exact
returns-clause-exact c =
    let is : c.new.result.coefficients ≡ small_decoded c.args.bytes.now = c.new.ensures ∙ small_decoded-all c.args.bytes.now c.loop-i.coefficients c.loop-i.invariant.whole (λ j h. c.loop-i.invariant.written j (omega arith)) in
    (λ e. (c.new.result, ap small_encoded is ∙ small_encoded-decoded c.args.bytes.now c.told-bytes (λ i. let fits = c.fits-bytes i in omega arith) (sym c.in_default.ensures)), λ x. refl)
