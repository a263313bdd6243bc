use Rattle.std.proofs.Common.{◌≤◌, ◌-◌, vec_len}
use Rattle.ntru_ring.proofs.working.Workspace.fill_q.Given as goal

abbrev pub invariant-rows : goal.invariant-rows
invariant-rows l = vec_len l.self.rows_q ≤ 761

abbrev pub decreases-rows : goal.decreases-rows
decreases-rows l = 761 - vec_len l.self.rows_q
