use Rattle.conversation.proofs.Going.{first_cut, first_goes, second_cut, second_goes}
use Rattle.conversation.proofs.meeting.goes_on.Goals as goal

pub returns-clause-first : goal.returns-clause-first
returns-clause-first g c = λ k law w joints lawful are n before after other bytes long here there told command ending lines runs fair.
    let grounds = c.client_grounds.ensures k law in (
      first_goes g.D.Disk.state g.met.D.Disk.lawful g.E.Disk.state g.met.E.Disk.lawful g.W.Draws.at k grounds
          c.args.first.now c.args.second.now w joints lawful are n before other long here there bytes command ending lines
          told after runs fair,
      first_cut g.D.Disk.state g.met.D.Disk.lawful g.E.Disk.state g.met.E.Disk.lawful g.W.Draws.at k grounds
          c.args.first.now c.args.second.now w joints lawful are n before other long here there bytes command ending lines
          told after runs fair,
    )

pub returns-clause-second : goal.returns-clause-second
returns-clause-second g c = λ k law w joints lawful are n before after other bytes long here there told command ending lines runs fair.
    let grounds = c.client_grounds.ensures k law in (
      second_goes g.D.Disk.state g.met.D.Disk.lawful g.E.Disk.state g.met.E.Disk.lawful g.W.Draws.at k grounds
          c.args.first.now c.args.second.now w joints lawful are n other before long there here bytes command ending lines
          told after runs fair,
      second_cut g.D.Disk.state g.met.D.Disk.lawful g.E.Disk.state g.met.E.Disk.lawful g.W.Draws.at k grounds
          c.args.first.now c.args.second.now w joints lawful are n other before long there here bytes command ending lines
          told after runs fair,
    )
