use Rattle.std.proofs.Common.{neg_ℤ, ◌*◌}
use Rattle.ntru_ring.proofs.Vectors.Blocks.{IsDone}
use Rattle.ntru_ring.proofs.lanes_q.subtract_multiple.Given as goal

abbrev pub invariant-loop-block : goal.invariant-loop-block
invariant-loop-block l = IsDone (neg_ℤ l.factor) l.fn.a l.b (8 * l.block) l.a
