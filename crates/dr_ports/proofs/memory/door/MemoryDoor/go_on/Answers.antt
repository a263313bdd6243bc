use Rattle.std.proofs.Common.{length, arith, ◌∙◌, sym, ap}
use Rattle.dr_ports.specs.MemoryWires.{Doorway, start_of}
use Rattle.dr_ports.proofs.Doors.{ends_hold}
use Rattle.dr_ports.proofs.memory.door.MemoryDoor.go_on.Goals as goal

pub go_on-requires-clause-order : goal.go_on-requires-clause-order
go_on-requires-clause-order c =
    (ends_hold (length c.self.inside.pipe.all) c.self.inside.ends.items c.self.inside.next c.start-start.result c.index.result.now c.self.invariant.1 ((omega (arith, c.if-self-len.true, c.len.ensures, c.self.inside.ends.ok.0)))
    (c.start-start.ensures ∙ ap (λ (d : Doorway). start_of d.ends d.next) (sym c.self.view_is)) c.index.ensures).0

pub go_on-requires-clause-within : goal.go_on-requires-clause-within
go_on-requires-clause-within c =
    (ends_hold (length c.self.inside.pipe.all) c.self.inside.ends.items c.self.inside.next c.start-start.result c.index.result.now c.self.invariant.1 ((omega (arith, c.if-self-len.true, c.len.ensures, c.self.inside.ends.ok.0)))
    (c.start-start.ensures ∙ ap (λ (d : Doorway). start_of d.ends d.next) (sym c.self.view_is)) c.index.ensures).1
