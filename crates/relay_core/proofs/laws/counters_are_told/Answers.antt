use Rattle.std.proofs.Common.{refl}
use Rattle.relay_core.proofs.Witness.{annas_own}
use Rattle.relay_core.proofs.laws.counters_are_told.Goals as goal

pub returns-clause-own : goal.returns-clause-own
returns-clause-own c = annas_own

pub returns-clause-counters : goal.returns-clause-counters
returns-clause-counters c = refl
