use Rattle.ntru_ring.proofs.Vectors.Words.{moved_first, moved_rest}
use Rattle.ntru_ring.proofs.words_three.moved_up.Goals as goal

pub returns-clause-first : goal.returns-clause-first
returns-clause-first c = moved_first c.args.word c.args.before

pub returns-clause-rest : goal.returns-clause-rest
returns-clause-rest c = λ j l. moved_rest c.args.word c.args.before j c.ranges.before.fits l
