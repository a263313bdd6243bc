use Rattle.client.proofs.Reopening.{each_undamaged}
use Rattle.book.specs.RowCells.{row_cell}
use Rattle.book.proofs.laws.stays_undamaged.Goals as goal

pub returns : goal.returns
returns g c =
    λ rows name. each_undamaged (row_cell rows name) g.D.Disk.state g.met.D.Disk.lawful c.args.moments.now
