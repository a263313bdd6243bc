use Rattle.ntru_ring.proofs.Vectors.Halves.{halves_fit, products_below}
use Rattle.ntru_ring.proofs.blocks_q.rows.settled.Goals as goal

pub overflow_cast-z : goal.overflow_cast-z
overflow_cast-z c = halves_fit 8 _ (products_below _ _)
