use Rattle.relay_core.specs.declared.limits.TheConstants.{EXCHANGE_LIMIT}
use Rattle.relay_core.proofs.Apart.{isolated_within}
use Rattle.relay_server.proofs.Sent.{moment_stands}
use Rattle.relay_server.proofs.laws.crashes.Goals as goal

pub returns-clause-whenever : goal.returns-clause-whenever
returns-clause-whenever g c = λ boxes got image r. record {
  front = r.front;
  back = r.back;
  split = r.split;
  stands = r.stands;
  alone = λ name. (isolated_within EXCHANGE_LIMIT name boxes r.front).next;
}

pub returns-clause-moment : goal.returns-clause-moment
returns-clause-moment g c = λ boxes start from frames image moment.
    moment_stands g.D.Disk.state g.P.Pipe.port g.met.D.Disk.lawful c.resting.ensures boxes start from frames image moment
