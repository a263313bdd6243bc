use Rattle.ntru_ring.proofs.Vectors.LanesQ.{product_within}
use Rattle.ntru_ring.proofs.sums_q.product.Goals as goal

pub centred_q-requires : goal.centred_q-requires
centred_q-requires c = product_within c.args.x c.args.y c.from.result c.from-2.result c.ranges.x c.requires.y_within c.from.ensures c.from-2.ensures
