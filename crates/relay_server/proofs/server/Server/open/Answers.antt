use Rattle.relay_server.proofs.OpenedBoxes.{fault_then, look_moments, opened_then, settled_moments}
use Rattle.relay_server.proofs.server.Server.open.Goals as goal

pub returns-in-Err-clause-any_moment : goal.returns-in-Err-clause-any_moment
returns-in-Err-clause-any_moment g c = look_moments c.args.specs.now (g.D.Disk.state c.args.disk.now) (g.D.Disk.state c.look.new.disk) c.look.ensures.looks

pub returns-in-Ok-settle-clause-any_moment : goal.returns-in-Ok-settle-clause-any_moment
returns-in-Ok-settle-clause-any_moment g c =
    settled_moments c.args.specs.now (g.D.Disk.state c.args.disk.now) (g.D.Disk.state c.look.new.disk) (g.D.Disk.state c.settle.new.disk) c.in-Ok.looked c.in-Ok.ensures.looked c.look.ensures.looks c.settle.ensures.any_moment

pub returns-in-Err-settle-clause-any_moment : goal.returns-in-Err-settle-clause-any_moment
returns-in-Err-settle-clause-any_moment g c =
    settled_moments c.args.specs.now (g.D.Disk.state c.args.disk.now) (g.D.Disk.state c.look.new.disk) (g.D.Disk.state c.settle.new.disk) c.in-Ok.looked c.in-Ok.ensures.looked c.look.ensures.looks c.settle.ensures.any_moment

pub returns-in-Ok-settle-clause-opened : goal.returns-in-Ok-settle-clause-opened
returns-in-Ok-settle-clause-opened g c =
    opened_then c.args.specs.now (g.D.Disk.state c.args.disk.now) (g.D.Disk.state c.look.new.disk) (g.D.Disk.state c.settle.new.disk) c.in-Ok.looked c.in-Ok.ensures.looked c.look.ensures.looks c.settle.ensures.any_moment c.in-Ok-settle.server c.in-Ok-settle.ensures.settled

pub returns-in-Err-settle-clause-unopened : goal.returns-in-Err-settle-clause-unopened
returns-in-Err-settle-clause-unopened g c =
    fault_then c.args.specs.now (g.D.Disk.state c.args.disk.now) (g.D.Disk.state c.look.new.disk) (g.D.Disk.state c.settle.new.disk) c.in-Ok.looked c.in-Ok.ensures.looked c.look.ensures.looks c.settle.ensures.any_moment c.in-Err-settle.call c.in-Err-settle.ensures.fault
