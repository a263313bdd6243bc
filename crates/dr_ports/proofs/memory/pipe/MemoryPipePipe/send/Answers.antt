use Rattle.std.proofs.Common.{arith, refl, rules}
use Rattle.std.proofs.lemmas.Grind.{common_steps}
use Rattle.dr_ports.proofs.memory.pipe.MemoryPipePipe.send.Goals as goal

pub unwrap-requires : goal.unwrap-requires
unwrap-requires c = grind (arith, common_steps)

pub invariant_of-self-2 : goal.invariant_of-self-2
invariant_of-self-2 c = grind (arith, common_steps)

pub returns-clause-sends : goal.returns-clause-sends
returns-clause-sends c = record {
  bound = grind (arith, common_steps);
  progress = grind (arith, common_steps);
  content = grind (arith, common_steps);
  err = tt;
  goes = tt;
  cause = search rules;
  gate = refl;
  same = refl;
}

pub returns-clause-takes : goal.returns-clause-takes
returns-clause-takes c = record {
  played = record { exact = grind (arith, common_steps); calls = search rules; list = search rules };
  most = grind (arith, common_steps);
  stays = grind (arith, common_steps);
}
