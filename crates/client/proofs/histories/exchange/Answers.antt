use Rattle.client.proofs.Exchanged.{history}
use Rattle.client.proofs.histories.exchange.Goals as goal

pub returns : goal.returns
returns g c = λ k law.
    history g.D.Disk.state g.met.D.Disk.lawful g.E.Disk.state g.W.Draws.at k law (c.acts_follow.ensures k law)
