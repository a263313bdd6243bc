use Rattle.std.proofs.Common.{◌≡◌, ◌<◌, ◌≤◌, ℕ, List, ℤ, pos, get_or, map, length, refl, sym, ap, ◌∙◌, arith}
use Rattle.ntru_ring.proofs.Vectors.Mapped.{mapped}
use Rattle.ntru_codec.specs.Coding.{encoded_length}
use Rattle.ntru_codec.specs.Elements.{third, rounded_encoded}
use Rattle.ntru_codec.proofs.ElementLaws.{limits-All, written-is, rounded-below, length-rounded, limit-rounded}
use Rattle.ntru_codec.proofs.elements.rounded_encode.Goals as goal

values-is : (a : List ℤ) (values : List ℕ) (k : ℕ) → length a ≡ 761 → 761 ≤ k → length values ≡ 761 → ((j : ℕ) → j < k → get_or values j 0 ≡ third (get_or a j (pos 0))) → values ≡ map third a
values-is a values k long all whole written = mapped third (pos 0) 0 a values (whole ∙ sym long) (λ j h. written j (omega arith))

pub encode-requires-clause-below : goal.encode-requires-clause-below
encode-requires-clause-below c =
    let a = c.args.a.now in
    let vs = values-is a.coefficients c.loop-k.values c.loop-k.k a.length (omega arith) c.loop-k.invariant.whole c.loop-k.invariant.written in
    rw (vs, c.limits_of-limits.ensures) (rounded-below a.coefficients a.length a.within)

pub encode-requires-clause-limits : goal.encode-requires-clause-limits
encode-requires-clause-limits c = limits-All 1531 _ limit-rounded c.limits_of-limits.ensures

pub encode-requires-clause-room : goal.encode-requires-clause-room
encode-requires-clause-room c =
    let size : encoded_length c.limits_of-limits.result ≡ 1007 = ap encoded_length c.limits_of-limits.ensures ∙ length-rounded in
    omega arith

pub returns : goal.returns
unfolding rounded_encoded
returns c =
    let a = c.args.a.now in
    let vs = values-is a.coefficients c.loop-k.values c.loop-k.k a.length (omega arith) c.loop-k.invariant.whole c.loop-k.invariant.written in
    written-is third 1531 1007 a.coefficients c.loop-k.values c.limits_of-limits.result c.encode.new.out _ c.encode.result length-rounded vs c.limits_of-limits.ensures c.encode.ensures.bytes c.encode.ensures.count refl
