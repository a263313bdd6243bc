use Rattle.conversation.proofs.Talking.{whole_talked}
use Rattle.conversation.proofs.meeting.whole_talk.Goals as goal

pub returns : goal.returns
returns g c = λ k law.
    whole_talked g.D.Disk.state g.met.D.Disk.lawful g.E.Disk.state g.met.E.Disk.lawful g.W.Draws.at k
    (c.client_grounds.ensures k law) (c.headline.ensures k)
