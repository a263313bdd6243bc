use Rattle.ntru_ring.proofs.Vectors.Planes.{element_of_zero}
use Rattle.ntru_ring.proofs.planes_three.Planes3.zero.Goals as goal

pub returns : goal.returns
returns c = element_of_zero
