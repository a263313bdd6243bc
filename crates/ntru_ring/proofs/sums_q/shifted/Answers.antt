use Rattle.std.proofs.Common.{rules, arith}
use Rattle.ntru_ring.specs.Ring.{coefficient}
use Rattle.ntru_ring.proofs.Rings.Places.{coefficient_within}
use Rattle.ntru_ring.proofs.Rings.Moves.{IsMovedUp-same, IsMovedUp-within}
use Rattle.ntru_ring.proofs.Vectors.LanesQ.{moved, moved_fits}
use mir.Syntax.{w32}
use mir.Val.{SFits}
use Rattle.ntru_ring.proofs.sums_q.shifted.Goals as goal

pub overflow_add-shifted : goal.overflow_add-shifted
overflow_add-shifted c =
    let s = c.args.sums.now in
    let f : SFits w32 (coefficient s 760) = search rules in
    moved_fits s c.loop-k.shifted c.centred_q.result c.from-last.result (λ j a b. c.loop-k.invariant.done j a (omega arith)) f c.centred_q.ensures.value c.from-last.ensures (coefficient_within 2142216622 s 0 c.requires.room)

pub returns-clause-value : goal.returns-clause-value
returns-clause-value c =
    let s = c.args.sums.now in
    let f : SFits w32 (coefficient s 760) = search rules in
    IsMovedUp-same 2295 759 s _
    (moved s c.loop-k.shifted c.centred_q.result c.from-last.result c.told-sums c.loop-k.invariant.length (λ j a b. c.loop-k.invariant.done j a (omega arith)) f c.centred_q.ensures.value c.from-last.ensures (coefficient_within 2142216622 s 0 c.requires.room))

pub returns-clause-bound : goal.returns-clause-bound
returns-clause-bound c =
    let s = c.args.sums.now in
    let f : SFits w32 (coefficient s 760) = search rules in
    λ b w. IsMovedUp-within 2295 759 b s _
    (moved s c.loop-k.shifted c.centred_q.result c.from-last.result c.told-sums c.loop-k.invariant.length (λ j a b. c.loop-k.invariant.done j a (omega arith)) f c.centred_q.ensures.value c.from-last.ensures (coefficient_within 2142216622 s 0 c.requires.room)) w
