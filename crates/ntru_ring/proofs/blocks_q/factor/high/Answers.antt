use Rattle.ntru_ring.proofs.Vectors.Halves.{halves_fit, products_below}
use Rattle.ntru_ring.proofs.blocks_q.factor.high.Goals as goal

pub overflow_cast-result-3 : goal.overflow_cast-result-3
overflow_cast-result-3 c = halves_fit 8 _ (products_below _ _)
