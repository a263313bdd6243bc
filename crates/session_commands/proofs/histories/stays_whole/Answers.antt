use Rattle.session_commands.proofs.Wholeness.{runs_whole, syncs_whole}
use Rattle.session_commands.proofs.histories.stays_whole.Goals as goal

pub returns-clause-acts : goal.returns-clause-acts
returns-clause-acts g c = λ k side w next whole on leaves image left.
    runs_whole (g.D.Disk.state c.args.before.now) (g.D.Disk.state c.args.after.now) (g.met.D.Disk.lawful c.args.before.now) whole
    k side w next on image (leaves image left)

pub returns-clause-syncs : goal.returns-clause-syncs
returns-clause-syncs g c = λ k side w kept replies result whole runs leaves image left.
    syncs_whole (g.D.Disk.state c.args.before.now) (g.D.Disk.state c.args.after.now) (g.met.D.Disk.lawful c.args.before.now) whole
    k side w kept replies result runs image (leaves image left)
