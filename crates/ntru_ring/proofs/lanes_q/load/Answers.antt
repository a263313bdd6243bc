use Rattle.std.proofs.Common.{lit<}
use lib.Lanes.{chunk}
use Rattle.ntru_ring.proofs.Vectors.Blocks.{kept_lanes}
use Rattle.ntru_ring.proofs.Rings.Places.{chunk_within}
use Rattle.ntru_ring.proofs.lanes_q.load.Goals as goal

pub returns : goal.returns
returns c = kept_lanes 2295 (chunk c.args.at 8 c.args.row.now) (lit< tt) (chunk_within 2295 c.args.at 8 c.args.row.now c.requires.within)
