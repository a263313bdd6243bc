use Rattle.session_commands.proofs.SyncCompleting.{sync_completes}
use Rattle.session_commands.proofs.laws.syncs_to_end.Goals as goal

pub returns : goal.returns
returns g c = λ k w side address faults later ending lines whole none over answers runs.
    sync_completes g.D.Disk.state g.L.Pipe.port k w side address c.args.before.now c.args.after.now c.args.link.now c.args.left.now
    faults later ending lines whole none over answers (g.met.L.Pipe.ahead c.args.left.now) runs
