use Rattle.std.proofs.Common.{◌≡◌, ◌<◌, ℕ, pos}
use Rattle.ntru_ring.specs.Ring.{coefficient}
use Rattle.ntru_ring.proofs.elimination_q.lead.Given as goal

abbrev pub invariant-loop-k : goal.invariant-loop-k
invariant-loop-k l = (j : ℕ) → j < l.k → coefficient l.a.coefficients j ≡ pos 0
