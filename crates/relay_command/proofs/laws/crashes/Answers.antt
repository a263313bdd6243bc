use Rattle.relay_command.specs.Connections.{behind_all}
use Rattle.relay_command.proofs.laws.crashes.Goals as goal

pub returns : goal.returns
returns g c = λ s start xs frames image left. c.crashes.ensures.moment (behind_all s xs).boxes left.disk left.accepted frames image left.moment
