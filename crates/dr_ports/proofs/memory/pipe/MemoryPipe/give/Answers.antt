use Rattle.std.proofs.Common.{ℕ, ◌-◌, List, take, drop, ◌∙◌, ap}
use Rattle.dr_ports.specs.MemoryWires.{Flowing}
use Rattle.dr_ports.proofs.memory.pipe.MemoryPipe.give.Goals as goal

pub returns-clause-given : goal.returns-clause-given
returns-clause-given c =
    c.copy_part.ensures
    ∙ ap (λ (bytes : List ℕ). take c.min-count.result (drop c.self.inside.at (take (c.self.inside.end - c.self.inside.start) (drop c.self.inside.start bytes)))) c.deref.ensures.value
    ∙ ap (λ (f : Flowing). take c.min-count.result (drop f.at f.held)) c.self.view_is
