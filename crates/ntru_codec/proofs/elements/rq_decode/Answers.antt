use Rattle.std.proofs.Common.{◌≡◌, ap, ◌∙◌, arith}
use Rattle.ntru_ring.specs.Reduction.{IsWithin}
use Rattle.ntru_codec.specs.Coding.{encoded_length}
use Rattle.ntru_codec.specs.Elements.{lowered, rq_decoded}
use Rattle.ntru_codec.proofs.Raised.{lowered-within}
use Rattle.ntru_codec.proofs.ElementLaws.{limits-All, read-is, read-below, read-All, length-rq, limit-rq}
use Rattle.ntru_codec.proofs.elements.rq_decode.Goals as goal

pub decode-requires-clause-limits : goal.decode-requires-clause-limits
decode-requires-clause-limits c = limits-All 4591 _ limit-rq c.limits_of-limits.ensures

pub decode-requires-clause-whole : goal.decode-requires-clause-whole
decode-requires-clause-whole c =
    let size : encoded_length c.limits_of-limits.result ≡ 1158 = ap encoded_length c.limits_of-limits.ensures ∙ length-rq in
    let long = c.told-bytes in
    omega arith

pub lower-requires : goal.lower-requires
lower-requires c =
    let below = read-below 4591 c.decode.new.out c.limits_of-limits.result c.limits_of-limits.ensures c.decode.ensures.below c.loop-k.k (omega arith) in
    omega arith

pub new-requires : goal.new-requires
new-requires c =
    read-All (IsWithin 2295) lowered 4591 c.decode.new.out c.limits_of-limits.result c.loop-k.coefficients c.limits_of-limits.ensures c.decode.ensures.below c.loop-k.invariant.whole (λ j h. c.loop-k.invariant.written j (omega arith)) lowered-within

pub returns : goal.returns
unfolding rq_decoded
returns c =
    c.new.ensures ∙ read-is lowered 4591 c.args.bytes.now c.decode.new.out c.limits_of-limits.result c.loop-k.coefficients c.limits_of-limits.ensures c.decode.ensures.values c.decode.ensures.below c.loop-k.invariant.whole (λ j h. c.loop-k.invariant.written j (omega arith))
