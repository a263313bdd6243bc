use Rattle.std.proofs.Common.{◌≡◌, List, ℤ, sym, ap, ◌∙◌, subst, arith}
use Rattle.std.specs.List.{All}
use Rattle.ntru_ring.specs.Reduction.{IsWithin}
use Rattle.ntru_codec.specs.Coding.{encoded_length}
use Rattle.ntru_codec.specs.Elements.{tripled, rounded_decoded, IsMultipleOf3}
use Rattle.ntru_codec.proofs.Raised.{tripled-within, tripled-multiple}
use Rattle.ntru_codec.proofs.ElementLaws.{limits-All, read-is, read-below, read-All, length-rounded, limit-rounded}
use Rattle.ntru_codec.proofs.elements.rounded_decode.Goals as goal

pub decode-requires-clause-limits : goal.decode-requires-clause-limits
decode-requires-clause-limits c = limits-All 1531 _ limit-rounded c.limits_of-limits.ensures

pub decode-requires-clause-whole : goal.decode-requires-clause-whole
decode-requires-clause-whole c =
    let size : encoded_length c.limits_of-limits.result ≡ 1007 = ap encoded_length c.limits_of-limits.ensures ∙ length-rounded in
    let long = c.told-bytes in
    omega arith

pub lower-requires : goal.lower-requires
lower-requires c =
    let below = read-below 1531 c.decode.new.out c.limits_of-limits.result c.limits_of-limits.ensures c.decode.ensures.below c.loop-k.k (omega arith) in
    omega arith

pub new-requires : goal.new-requires
new-requires c =
    read-All (IsWithin 2295) tripled 1531 c.decode.new.out c.limits_of-limits.result c.loop-k.coefficients c.limits_of-limits.ensures c.decode.ensures.below c.loop-k.invariant.whole (λ j h. c.loop-k.invariant.written j (omega arith)) tripled-within

pub returns-clause-value : goal.returns-clause-value
unfolding rounded_decoded
returns-clause-value c =
    c.new.ensures ∙ read-is tripled 1531 c.args.bytes.now c.decode.new.out c.limits_of-limits.result c.loop-k.coefficients c.limits_of-limits.ensures c.decode.ensures.values c.decode.ensures.below c.loop-k.invariant.whole (λ j h. c.loop-k.invariant.written j (omega arith))

pub returns-clause-rounded : goal.returns-clause-rounded
returns-clause-rounded c =
    let P : List ℤ → Type 0 = λ xs. All IsMultipleOf3 xs in
    subst P (sym c.new.ensures) (read-All IsMultipleOf3 tripled 1531 c.decode.new.out c.limits_of-limits.result c.loop-k.coefficients c.limits_of-limits.ensures c.decode.ensures.below c.loop-k.invariant.whole (λ j h. c.loop-k.invariant.written j (omega arith)) tripled-multiple)

pub overflow_mul-values : goal.overflow_mul-values
overflow_mul-values c =
    let below = read-below 1531 c.decode.new.out c.limits_of-limits.result c.limits_of-limits.ensures c.decode.ensures.below c.loop-k.k (omega arith) in
    omega arith
