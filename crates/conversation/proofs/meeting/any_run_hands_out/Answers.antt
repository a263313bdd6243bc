use Rattle.conversation.proofs.AnyRun.{first_hands, second_hands}
use Rattle.conversation.proofs.meeting.any_run_hands_out.Goals as goal

pub returns-clause-first : goal.returns-clause-first
returns-clause-first g c = λ k law w joints lawful are n before after other later long here there ran packet handed.
    first_hands g.D.Disk.state g.met.D.Disk.lawful g.E.Disk.state g.met.E.Disk.lawful g.W.Draws.at k
    (c.client_grounds.ensures k law) c.args.first.now c.args.second.now w joints lawful are n before other long here there later
    after ran packet handed

pub returns-clause-second : goal.returns-clause-second
returns-clause-second g c = λ k law w joints lawful are n before after other later long here there ran packet handed.
    second_hands g.D.Disk.state g.met.D.Disk.lawful g.E.Disk.state g.met.E.Disk.lawful g.W.Draws.at k
    (c.client_grounds.ensures k law) c.args.first.now c.args.second.now w joints lawful are n other before long there here later
    after ran packet handed
