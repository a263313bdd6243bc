use Rattle.dr_model.specs.Machines.Acts.{taken_by}
use Rattle.session_model.specs.Clients.{accept_receive}
use Rattle.client.specs.Drafting.{taken_of}
use Rattle.client.proofs.Syncs.Moving.{refused_still}
use Rattle.client.proofs.client.Client.take_packet.Goals as goal

pub returns-in-Err-Refused : goal.returns-in-Err-Refused
returns-in-Err-Refused g c =
    refused_still g.D.Disk.state (taken_by (accept_receive c.args.self.now.kept (taken_of c.args.self.now.kept.state c.args.drafted))) c.in-Err-Refused.refusal
    c.args.self.now c.take_drafted.new.keeper c.args.disk.now c.take_drafted.new.disk c.requires.open.1
    (rw c.in-Err-Refused.field-0-is at c.in-Err-Refused.ensures.exact)
