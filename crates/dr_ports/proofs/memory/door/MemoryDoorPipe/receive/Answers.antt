use Rattle.std.proofs.Common.{subst, ap}
use Rattle.dr_ports.specs.Calls.{Receives}
use Rattle.dr_ports.specs.MemoryWires.{Flowing, Doorway, door_port_of, nobody}
use Rattle.dr_ports.proofs.Doors.{lent_receives}
use Rattle.dr_ports.proofs.memory.door.MemoryDoorPipe.receive.Goals as goal

pub returns-clause-receives : goal.returns-clause-receives
returns-clause-receives c =
    let old : Doorway = record { pipe = c.self.inside.pipe; ends = c.self.inside.ends.items; next = c.self.inside.next; plan = c.self.inside.plan; port = c.self.inside.port; stand = c.self.inside.stand } in
    let new : Doorway = record old { pipe = c.receive.new.self } in
    subst (λ (d : Doorway). Receives (door_port_of d) (door_port_of new) (nobody d) (nobody new) c.args.into.now c.receive.new.into c.receive.result) c.self.view_is
    (lent_receives old c.receive.new.self c.args.into.now c.receive.new.into c.receive.result c.receive.ensures.receives
    (ap (λ (f : Flowing). f.all) c.receive.ensures.gives.stays))
