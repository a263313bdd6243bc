use Rattle.std.proofs.Common.{◌<◌, ◌≤◌}
use Rattle.ntru_ring.proofs.candidates_three.candidate_three.Given as goal

abbrev pub invariant-loop : goal.invariant-loop
invariant-loop l = record {
  gap : l.gap < 761;
  low : l.low ≤ 761;
}
