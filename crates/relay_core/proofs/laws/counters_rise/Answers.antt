use Rattle.relay_core.proofs.Counted.{rises_in_stream, rises_through}
use Rattle.relay_core.proofs.laws.counters_rise.Goals as goal

pub returns-clause-stream : goal.returns-clause-stream
returns-clause-stream c = rises_in_stream

pub returns-clause-through : goal.returns-clause-through
returns-clause-through c = rises_through
