use Rattle.ntru_ring.proofs.Vectors.Representatives.{centred_lanes_is}
use Rattle.ntru_ring.proofs.lanes_q.centred_lanes.Goals as goal

pub returns : goal.returns
returns c = centred_lanes_is 8 c.args.z c.requires.length c.requires.near
