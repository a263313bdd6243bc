use Rattle.relay_command.proofs.Completing.{relay_completes}
use Rattle.relay_command.proofs.laws.complete.Goals as goal

pub returns : goal.returns
returns g c = λ words port count code ending lines may none relays.
    relay_completes g.A.Disk.state g.L.Pipe.port words port count c.args.before.now c.args.after.now c.args.from.now c.args.door.now
    code ending lines may none relays
