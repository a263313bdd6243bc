use Rattle.ntru_ring.specs.declared.rows_three.Row3.{Row3}
use Rattle.ntru_ring.specs.Elements.{element}
use Rattle.ntru_ring.specs.Rows3.{parts_3}
use Rattle.ntru_ring.proofs.Eliminating.Elimination.{IsClearing}
use Rattle.ntru_ring.proofs.elimination_three.clear.Given as goal

abbrev pub invariant-loop-j : goal.invariant-loop-j
invariant-loop-j l = IsClearing Row3 parts_3 1 l.rows l.count (element l.a) (element l.b) (element l.pair.a) (element l.pair.b) l.j
