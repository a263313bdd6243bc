use Rattle.std.proofs.Common.{◌≡◌, option_map, subst, rules}
use Rattle.dr_ports.specs.Wires.{next_of}
use Rattle.dr_ports.specs.MemoryWires.{Doorway, door_port_of}
use Rattle.dr_ports.proofs.Doors.{went_on}
use Rattle.dr_ports.proofs.memory.door.MemoryDoorDoor.accept.Goals as goal

pub returns-clause-accepts : goal.returns-clause-accepts
returns-clause-accepts c = record {
  next = subst (λ (d : Doorway). (door_port_of c.go_on.new.self).told ≡ option_map next_of (door_port_of d).told) c.self.view_is
      (went_on (record { pipe = c.self.inside.pipe; ends = c.self.inside.ends.items; next = c.self.inside.next; plan = c.self.inside.plan; port = c.self.inside.port; stand = c.self.inside.stand }) c.go_on.new.self c.go_on.ensures.pipe c.go_on.ensures.next c.go_on.ensures.ends c.go_on.ensures.port c.go_on.ensures.stand);
  err = tt;
  cause = search rules;
  flow = search rules;
}
