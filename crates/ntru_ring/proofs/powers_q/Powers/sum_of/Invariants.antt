use Rattle.std.proofs.Common.{◌≡◌, ◌*◌}
use Rattle.ntru_ring.specs.Reduction.{reduced}
use Rattle.ntru_ring.specs.Powers.{total}
use Rattle.ntru_ring.proofs.powers_q.Powers.sum_of.Given as goal

abbrev pub invariant-loop-group : goal.invariant-loop-group
invariant-loop-group l = reduced 2295 l.sums.terms ≡ reduced 2295 (total l.self.places l.starts.places (4 * l.group))

abbrev pub invariant-loop-k : goal.invariant-loop-k
invariant-loop-k l = reduced 2295 l.sums.terms ≡ reduced 2295 (total l.self.places l.starts.places l.k)
