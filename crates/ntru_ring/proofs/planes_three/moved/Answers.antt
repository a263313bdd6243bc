use Rattle.std.proofs.Common.{arith, refl, ◌∙◌, replicate}
use Rattle.std.proofs.lemmas.Nat.Bits.{bit_at-zero}
use Rattle.ntru_ring.proofs.Vectors.Shifts.{IsMoving-first, IsMoving-more, IsMoved-from_moving}
use Rattle.ntru_ring.proofs.planes_three.moved.Goals as goal

pub loop-k-init : goal.loop-k-init
loop-k-init c = IsMoving-first c.args.words.now (replicate 12 0) c.moved_up.result refl (c.moved_up.ensures.first ∙ bit_at-zero 63) c.moved_up.ensures.rest

pub loop-k-preserved : goal.loop-k-preserved
loop-k-preserved c =
    let up = c.moved_up-in-loop-k in
    IsMoving-more c.args.words.now c.loop-k.moved c.loop-k.k up.result (omega arith) (omega arith) up.ensures.first up.ensures.rest c.loop-k.invariant

pub returns : goal.returns
returns c = IsMoved-from_moving c.args.words.now c.loop-k.moved c.loop-k.k (omega arith) c.loop-k.invariant _ refl
