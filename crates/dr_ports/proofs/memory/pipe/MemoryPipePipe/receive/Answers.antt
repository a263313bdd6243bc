use Rattle.std.proofs.Common.{arith, ◌-◌, take, drop, refl, subst, rules}
use Rattle.std.proofs.lemmas.Grind.{common_steps}
use Rattle.dr_ports.specs.Wires.{Gave}
use Rattle.dr_ports.specs.MemoryWires.{Flowing, port_of}
use Rattle.dr_ports.proofs.Pieces.{gave_piece}
use Rattle.dr_ports.proofs.memory.pipe.MemoryPipePipe.receive.Goals as goal

pub returns-clause-receives : goal.returns-clause-receives
returns-clause-receives c =
    let old : Flowing = record { all = c.self.inside.bytes.items; held = take (c.self.inside.end - c.self.inside.start) (drop c.self.inside.start c.self.inside.bytes.items); at = c.self.inside.at; before = take c.self.inside.mark c.self.inside.taken.items; sent = drop c.self.inside.mark c.self.inside.taken.items; room = c.self.inside.room; plan = c.self.inside.plan } in
    record {
      bound = search rules;
      content = subst (λ (f : Flowing). Gave (take c.give.result c.give.new.into) (port_of f) (port_of c.give.new.self)) c.self.view_is
          (gave_piece old c.give.new.self c.give.result (take c.give.result c.give.new.into) c.begin_call.new.self c.give.ensures.given c.give.ensures.gave);
      end = grind (arith, common_steps);
      err = tt;
      goes = λ some. tt;
      cause = search rules;
      gate = refl;
      same = refl;
    }
