use Rattle.client.proofs.Syncs.InOrder.{moment_behind}
use Rattle.client.proofs.syncing.laws.sent_behind_the_disk.Goals as goal

pub returns : goal.returns
returns g c = λ k prefix kept start from. moment_behind k prefix kept g.D.Disk.state g.met.D.Disk.lawful g.L.Pipe.port start from
