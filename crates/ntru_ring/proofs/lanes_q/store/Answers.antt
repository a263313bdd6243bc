use Rattle.std.proofs.Common.{ap, lit<}
use lib.Lanes.{put_chunk}
use Rattle.ntru_ring.proofs.Vectors.Blocks.{kept_lanes}
use Rattle.ntru_ring.proofs.lanes_q.store.Goals as goal

pub returns : goal.returns
returns c = ap (put_chunk c.args.at c.args.row.now) (kept_lanes 2295 c.args.lanes (lit< tt) c.requires.within)
