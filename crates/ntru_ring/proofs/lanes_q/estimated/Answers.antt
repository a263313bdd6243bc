use Rattle.ntru_ring.proofs.Vectors.VectorsQ.{quotients_fit, lanes_same, lanes_near}
use Rattle.ntru_ring.proofs.lanes_q.estimated.Goals as goal

pub overflow_cast-result : goal.overflow_cast-result
overflow_cast-result c = quotients_fit c.args.factor c.args.quotient c.requires.factor_within c.ranges.quotient c.requires.quotient 8 c.args.y c.requires.y_length c.requires.y_within

pub returns-clause-same : goal.returns-clause-same
returns-clause-same c =
    lanes_same c.args.factor c.args.quotient c.requires.factor_within c.ranges.quotient c.requires.quotient 8 c.args.x c.args.y c.requires.x_length c.requires.y_length c.requires.x_within c.requires.y_within

pub returns-clause-near : goal.returns-clause-near
returns-clause-near c =
    lanes_near c.args.factor c.args.quotient c.requires.factor_within c.ranges.quotient c.requires.quotient 8 c.args.x c.args.y c.requires.x_length c.requires.y_length c.requires.x_within c.requires.y_within
