use Rattle.relay_server.proofs.Counters.{rise_over}
use Rattle.relay_server.proofs.Lives.{past_connection, past_crash}
use Rattle.relay_server.proofs.laws.counters_rise.Goals as goal

pub returns-clause-rise : goal.returns-clause-rise
returns-clause-rise g c = rise_over

pub returns-clause-connection : goal.returns-clause-connection
returns-clause-connection g c = past_connection g.D.Disk.state g.P.Pipe.port

pub returns-clause-crash : goal.returns-clause-crash
returns-clause-crash g c = past_crash g.D.Disk.state g.P.Pipe.port g.met.D.Disk.lawful c.resting.ensures
