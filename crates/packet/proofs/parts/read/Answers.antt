use Rattle.packet.proofs.Halves.{after_head, in_head}
use Rattle.packet.proofs.parts.read.Goals as goal

pub returns-in-Ok : goal.returns-in-Ok
returns-in-Ok c = rw (after_head c.args.agreement c.args.bytes.now _ c.in-Ok.ensures) c.read_body.ensures

pub returns-in-Err : goal.returns-in-Err
returns-in-Err c = in_head c.args.agreement c.args.bytes.now _ c.in-Err.ensures
