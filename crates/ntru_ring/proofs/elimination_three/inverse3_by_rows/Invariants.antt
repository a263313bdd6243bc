use Rattle.std.proofs.Common.{◌≡◌, vec_len}
use Rattle.ntru_ring.specs.declared.rows_three.Row3.{Row3}
use Rattle.ntru_ring.specs.Elements.{element}
use Rattle.ntru_ring.specs.Rows3.{parts_3}
use Rattle.ntru_ring.proofs.Eliminating.Inverses.{IsBuilt}
use Rattle.ntru_ring.proofs.elimination_three.inverse3_by_rows.Given as goal

abbrev pub invariant-loop-k : goal.invariant-loop-k
invariant-loop-k l = (vec_len l.work.rows_three ≡ 761) × IsBuilt Row3 parts_3 1 761 l.g.coefficients l.work.rows_three.items (element l.power) l.k
