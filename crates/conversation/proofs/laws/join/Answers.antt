use Rattle.conversation.proofs.Joined.{first_run, second_run}
use Rattle.conversation.proofs.laws.join.Goals as goal

pub returns-clause-first : goal.returns-clause-first
returns-clause-first g c = λ k law w joints lawful are.
    first_run k (c.client_grounds.ensures k law) g.D.Disk.state g.E.Disk.state g.W.Draws.at
    c.args.first.now c.args.second.now w joints lawful are

pub returns-clause-second : goal.returns-clause-second
returns-clause-second g c = λ k law w joints lawful are.
    second_run k (c.client_grounds.ensures k law) g.D.Disk.state g.E.Disk.state g.W.Draws.at
    c.args.first.now c.args.second.now w joints lawful are
