use Rattle.std.proofs.Common.{◌≡◌, vec_len}
use Rattle.ntru_ring.specs.declared.rows_q.RowQ.{RowQ}
use Rattle.ntru_ring.specs.RowsQ.{parts_q}
use Rattle.ntru_ring.proofs.Eliminating.Inverses.{IsBuilt}
use Rattle.ntru_ring.proofs.elimination_q.inverse_q_by_rows.Given as goal

abbrev pub invariant-loop-k : goal.invariant-loop-k
invariant-loop-k l = (vec_len l.work.rows_q ≡ 761) × IsBuilt RowQ parts_q 2295 761 l.f.coefficients l.work.rows_q.items l.power.coefficients l.k
