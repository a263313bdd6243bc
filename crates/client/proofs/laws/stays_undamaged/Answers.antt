use Rattle.client.specs.Cells.{client_cell}
use Rattle.client.proofs.Reopening.{each_undamaged}
use Rattle.client.proofs.laws.stays_undamaged.Goals as goal

pub returns : goal.returns
returns g c = each_undamaged client_cell g.D.Disk.state g.met.D.Disk.lawful c.args.moments.now
