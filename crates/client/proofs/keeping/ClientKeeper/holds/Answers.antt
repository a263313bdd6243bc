use Rattle.client.proofs.Lifted.{client_holds}
use Rattle.client.proofs.keeping.ClientKeeper.holds.Goals as goal

pub returns : goal.returns
returns g c = λ disk. client_holds c.resting.ensures (g.D.Disk.state disk)
