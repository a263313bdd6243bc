use Rattle.ntru_ring.specs.declared.rows_q.RowQ.{RowQ}
use Rattle.ntru_ring.specs.RowsQ.{parts_q}
use Rattle.ntru_ring.proofs.Eliminating.Elimination.{IsClearing}
use Rattle.ntru_ring.proofs.elimination_q.clear.Given as goal

abbrev pub invariant-loop-j : goal.invariant-loop-j
invariant-loop-j l = IsClearing RowQ parts_q 2295 l.rows l.count l.a.coefficients l.b.coefficients l.sums_a.terms l.sums_b.terms l.j
