use Rattle.std.proofs.Common.{◌∙◌, ◌*◌, ap, arith, lit<}
use Rattle.std.specs.Int.{bit_at}
use Rattle.ntru_ring.specs.Planes.{from_bits}
use Rattle.ntru_ring.proofs.Numbers.Ranges.{stored}
use Rattle.ntru_ring.proofs.Vectors.Words.{twice_first, twice_second, twice_above, twice_inside}
use mir.Syntax.{w16}
use Rattle.ntru_ring.proofs.words_three.Word3.pair_of.Goals as goal

pub invariant_of-result : goal.invariant_of-result
invariant_of-result c = let o = c.of-one in record { inside = twice_inside o.result.nonzero o.result.negative o.ensures.small o.ensures.within }

pub returns-clause-first : goal.returns-clause-first
returns-clause-first c =
    let o = c.of-one.result in
    ap (λ t. from_bits t (bit_at (3 * o.negative) 0)) (twice_first o.nonzero c.of-one.ensures.small) ∙ ap (from_bits o.nonzero) (twice_first o.negative (omega (arith, c.of-one.ensures.within, c.of-one.ensures.small))) ∙ c.of-one.ensures.value ∙ stored w16 1 c.args.c c.requires (lit< tt)

pub returns-clause-second : goal.returns-clause-second
returns-clause-second c =
    let o = c.of-one.result in
    ap (λ t. from_bits t (bit_at (3 * o.negative) 1)) (twice_second o.nonzero c.of-one.ensures.small) ∙ ap (from_bits o.nonzero) (twice_second o.negative (omega (arith, c.of-one.ensures.within, c.of-one.ensures.small))) ∙ c.of-one.ensures.value ∙ stored w16 1 c.args.c c.requires (lit< tt)

pub returns-clause-above : goal.returns-clause-above
returns-clause-above c = λ j l.
    let o = c.of-one.result in
    ap (λ t. from_bits t (bit_at (3 * o.negative) j)) (twice_above o.nonzero j c.of-one.ensures.small l) ∙ ap (from_bits 0) (twice_above o.negative j (omega (arith, c.of-one.ensures.within, c.of-one.ensures.small)) l)
