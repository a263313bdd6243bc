use Rattle.client.proofs.Standing.{stands}
use Rattle.book.specs.RowCells.{row_cell}
use Rattle.book.proofs.laws.crash_safety.Goals as goal

pub returns : goal.returns
returns g c = λ rows name. stands (row_cell rows name) g.D.Disk.state c.args.moments.now
