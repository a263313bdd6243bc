use Rattle.std.proofs.Common.{◌-◌}
use Rattle.ntru_ring.specs.Elements.{element}
use Rattle.ntru_ring.proofs.Rings.Residues.{IsSummedTo}
use Rattle.ntru_ring.proofs.planes_three.Planes3.mul.Given as goal

abbrev pub invariant-loop-k : goal.invariant-loop-k
invariant-loop-k l = IsSummedTo (element l.self) (element l.o) (64 - l.k) 12 (element l.product)

abbrev pub invariant-loop-j : goal.invariant-loop-j
invariant-loop-j l = IsSummedTo (element l.self) (element l.o) l.place l.j (element l.product)
