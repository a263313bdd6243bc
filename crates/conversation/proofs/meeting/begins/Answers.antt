use Rattle.conversation.proofs.Begun.{both_begun}
use Rattle.conversation.proofs.meeting.begins.Goals as goal

pub returns : goal.returns
returns g c = λ k law.
    both_begun g.D.Disk.state g.E.Disk.state g.W.Draws.at k (c.client_grounds.ensures k law)
