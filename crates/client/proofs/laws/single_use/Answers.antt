use Rattle.client.specs.Cells.{client_cell}
use Rattle.client.proofs.OnePacket.{one_packet}
use Rattle.client.proofs.laws.single_use.Goals as goal

pub returns : goal.returns
returns g c = one_packet client_cell g.D.Disk.state c.args.moments.now
