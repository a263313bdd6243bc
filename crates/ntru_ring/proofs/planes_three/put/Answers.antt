use Rattle.ntru_ring.proofs.Vectors.Planes.{put_there, put_others}
use Rattle.ntru_ring.proofs.planes_three.put.Goals as goal

pub returns-clause-there : goal.returns-clause-there
returns-clause-there c = put_there c.args.words.now c.args.place c.args.bit c.told-words c.requires.place c.requires.bit c.requires.empty

pub returns-clause-others : goal.returns-clause-others
returns-clause-others c = put_others c.args.words.now c.args.place c.args.bit c.told-words c.requires.place c.requires.bit
