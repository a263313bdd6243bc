use Rattle.std.proofs.Common.{arith, ◌∙◌}
use Rattle.dr_ports.proofs.Turning.{gives_next}
use Rattle.dr_ports.proofs.memory.draws.SteadyDraws.give.Goals as goal

pub returns-clause-given : goal.returns-clause-given
returns-clause-given c =
    gives_next c.args.self.now c.self.inside.seeds.items c.self.inside.at c.len.result c.index.result.now c.copy_of-seed.result c.self.view_is
    (omega (arith, c.self.invariant, c.len.ensures)) (c.len.ensures ∙ c.self.inside.seeds.ok.0) c.index.ensures c.copy_of-seed.ensures
