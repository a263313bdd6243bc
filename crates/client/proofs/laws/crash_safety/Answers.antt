use Rattle.client.specs.Cells.{client_cell}
use Rattle.client.proofs.Standing.{stands}
use Rattle.client.proofs.laws.crash_safety.Goals as goal

pub returns : goal.returns
returns g c = stands client_cell g.D.Disk.state c.args.moments.now
