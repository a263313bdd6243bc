use Rattle.std.proofs.Common.{All}
use Rattle.ntru_ring.specs.Reduction.{IsWithin}
use Rattle.ntru_ring.proofs.blocks_q.candidate.element_without_pattern.Given as goal

abbrev pub invariant-loop-k : goal.invariant-loop-k
invariant-loop-k l = All (IsWithin 2295) l.coefficients
