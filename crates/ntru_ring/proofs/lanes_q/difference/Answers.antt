use Rattle.ntru_ring.proofs.Vectors.LanesQ.{difference_fits, difference_in, difference_centred}
use Rattle.ntru_ring.proofs.lanes_q.difference.Goals as goal

pub overflow_sub-from : goal.overflow_sub-from
overflow_sub-from c =
    difference_fits c.args.x c.args.factor c.args.y c.from.result c.from-2.result c.from-3.result c.requires.x_within c.requires.factor_within c.requires.y_within c.from.ensures c.from-2.ensures c.from-3.ensures

pub centred_q-requires : goal.centred_q-requires
centred_q-requires c =
    difference_in c.args.x c.args.factor c.args.y c.from.result c.from-2.result c.from-3.result c.requires.x_within c.requires.factor_within c.requires.y_within c.from.ensures c.from-2.ensures c.from-3.ensures

pub returns-clause-value : goal.returns-clause-value
returns-clause-value c =
    difference_centred c.args.x c.args.factor c.args.y c.from.result c.from-2.result c.from-3.result c.requires.x_within c.requires.factor_within c.requires.y_within c.from.ensures c.from-2.ensures c.from-3.ensures
    c.centred_q.result c.centred_q.ensures.value
