use Rattle.std.proofs.Common.{subst, ap}
use Rattle.dr_ports.specs.Calls.{Sends}
use Rattle.dr_ports.specs.MemoryWires.{Flowing, Doorway, door_port_of, nobody}
use Rattle.dr_ports.proofs.Doors.{lent_sends}
use Rattle.dr_ports.proofs.memory.door.MemoryDoorPipe.send.Goals as goal

pub returns-clause-sends : goal.returns-clause-sends
returns-clause-sends c =
    let old : Doorway = record { pipe = c.self.inside.pipe; ends = c.self.inside.ends.items; next = c.self.inside.next; plan = c.self.inside.plan; port = c.self.inside.port; stand = c.self.inside.stand } in
    let new : Doorway = record old { pipe = c.send.new.self } in
    subst (λ (d : Doorway). Sends (door_port_of d) (door_port_of new) (nobody d) (nobody new) c.args.bytes.now c.send.result) c.self.view_is
    (lent_sends old c.send.new.self c.args.bytes.now c.send.result c.send.ensures.sends
    (ap (λ (f : Flowing). f.all) c.send.ensures.takes.stays))
