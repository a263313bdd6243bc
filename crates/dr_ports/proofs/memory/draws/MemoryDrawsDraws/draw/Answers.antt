use Rattle.std.proofs.Common.{Some, ◌∙◌, ap, sym, rules}
use Rattle.dr_ports.specs.Memory.{Drawing, coming_of}
use Rattle.dr_ports.proofs.memory.draws.MemoryDrawsDraws.draw.Goals as goal

pub returns-clause-draws : goal.returns-clause-draws
returns-clause-draws c = record {
  seed = ap Some (ap (λ (d : Drawing). coming_of d.turning) (sym c.self.view_is) ∙ c.give.ensures.given);
  err = tt;
  cause = search rules;
}
