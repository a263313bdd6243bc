use Rattle.std.proofs.Common.{refl, ◌≡◌}
use Rattle.dr_base.specs.declared.position.Side.TheVariants.{First, Second}
use Rattle.conversation.specs.Joints.{known_in}
use Rattle.conversation.proofs.Onward.Running.{first_onward, second_onward}
use Rattle.conversation.proofs.Onward.Staying.{checked_cut, checked_ran}
use Rattle.conversation.proofs.going_on.goes_on_checking.Goals as goal

pub returns-clause-first : goal.returns-clause-first
returns-clause-first g c = λ k law w joints lawful are n before after other long here there ending lines runs.
    let grounds = c.client_grounds.ensures k law in
    let known = known_in k First (joints n) in (
      first_onward g.D.Disk.state g.met.D.Disk.lawful g.E.Disk.state g.met.E.Disk.lawful g.W.Draws.at k grounds c.args.first.now
          c.args.second.now w joints lawful are n before other long here there (λ later. later ≡ known)
          (λ j. known_in k First j ≡ known) (λ j is. is) after (
            known,
            checked_ran g.D.Disk.state g.met.D.Disk.lawful g.W.Draws.at k First known before after ending lines runs,
            refl,
          ),
      λ crashed leaves. first_onward g.D.Disk.state g.met.D.Disk.lawful g.E.Disk.state g.met.E.Disk.lawful g.W.Draws.at k grounds
          c.args.first.now c.args.second.now w joints lawful are n before other long here there
          (λ later. later ≡ known) (λ j. known_in k First j ≡ known) (λ j is. is) crashed (
            known,
            checked_cut g.D.Disk.state g.met.D.Disk.lawful g.W.Draws.at k First known before after ending lines runs crashed leaves,
            refl,
          ),
    )

pub returns-clause-second : goal.returns-clause-second
returns-clause-second g c = λ k law w joints lawful are n before after other long here there ending lines runs.
    let grounds = c.client_grounds.ensures k law in
    let known = known_in k Second (joints n) in (
      second_onward g.D.Disk.state g.met.D.Disk.lawful g.E.Disk.state g.met.E.Disk.lawful g.W.Draws.at k grounds c.args.first.now
          c.args.second.now w joints lawful are n other before long there here (λ later. later ≡ known)
          (λ j. known_in k Second j ≡ known) (λ j is. is) after (
            known,
            checked_ran g.E.Disk.state g.met.E.Disk.lawful g.W.Draws.at k Second known before after ending lines runs,
            refl,
          ),
      λ crashed leaves. second_onward g.D.Disk.state g.met.D.Disk.lawful g.E.Disk.state g.met.E.Disk.lawful g.W.Draws.at k grounds
          c.args.first.now c.args.second.now w joints lawful are n other before long there here
          (λ later. later ≡ known) (λ j. known_in k Second j ≡ known) (λ j is. is) crashed (
            known,
            checked_cut g.E.Disk.state g.met.E.Disk.lawful g.W.Draws.at k Second known before after ending lines runs crashed leaves,
            refl,
          ),
    )
