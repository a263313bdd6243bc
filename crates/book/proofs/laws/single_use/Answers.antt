use Rattle.client.proofs.OnePacket.{one_packet}
use Rattle.book.specs.RowCells.{row_cell}
use Rattle.book.proofs.laws.single_use.Goals as goal

pub returns : goal.returns
returns g c = λ rows name. one_packet (row_cell rows name) g.D.Disk.state c.args.moments.now
