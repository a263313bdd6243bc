use Rattle.ntru_ring.proofs.Vectors.Words.{sum_inside, sum_value}
use Rattle.ntru_ring.proofs.words_three.Word3.add.Goals as goal

pub invariant_of-result : goal.invariant_of-result
invariant_of-result c = record { inside = λ j. sum_inside c.args.self.nonzero c.args.self.negative c.args.o.nonzero c.args.o.negative j (c.args.self.inside j) (c.args.o.inside j) }

pub returns : goal.returns
returns c = λ j. sum_value c.args.self.nonzero c.args.self.negative c.args.o.nonzero c.args.o.negative j (c.args.self.inside j) (c.args.o.inside j)
