use Rattle.session_commands.proofs.Talking.{have_talked}
use Rattle.session_commands.proofs.whole_runs.talk.Goals as goal

pub returns : goal.returns
returns g c = λ k law.
    have_talked g.D.Disk.state g.met.D.Disk.lawful g.E.Disk.state g.met.E.Disk.lawful
    g.W.Draws.at k
    (c.client_grounds.ensures k law)
