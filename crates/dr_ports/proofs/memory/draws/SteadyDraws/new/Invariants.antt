use Rattle.std.proofs.Common.{◌≡◌, take}
use Rattle.dr_ports.proofs.memory.draws.SteadyDraws.new.Given as goal

abbrev pub invariant-seeds : goal.invariant-seeds
invariant-seeds l = record {
  copied : l.copies.items ≡ take l.seed-index l.seeds;
}
