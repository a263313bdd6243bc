use Rattle.std.proofs.Common.{◌≡◌}
use Rattle.std.specs.Prelude.{⊤}
use Rattle.dr_base.specs.declared.position.Side.TheVariants.{First, Second}
use Rattle.endings.specs.declared.ending.Ending.TheVariants.{Done}
use Rattle.conversation.specs.Joints.{known_in}
use Rattle.conversation.specs.Shown.{IsShown}
use Rattle.conversation.proofs.Onward.Running.{first_found, first_onward, second_found, second_onward}
use Rattle.conversation.proofs.Onward.Showing.{ShowsKnown, is_shown, shown_cut, shown_ran}
use Rattle.conversation.proofs.going_on.goes_on_showing.Goals as goal

pub returns-clause-first : goal.returns-clause-first
returns-clause-first g c = λ k law w joints lawful are n before after other bytes long here there told ends shows ending lines runs.
    let grounds = c.client_grounds.ensures k law in
    let read = first_found g.D.Disk.state g.met.D.Disk.lawful g.E.Disk.state g.met.E.Disk.lawful g.W.Draws.at k grounds c.args.first.now
    c.args.second.now w joints lawful are n before other long here there bytes told in
    let in_world = runs.in_worlds read.0 First read.2 read.3 in (
      first_onward g.D.Disk.state g.met.D.Disk.lawful g.E.Disk.state g.met.E.Disk.lawful g.W.Draws.at k grounds c.args.first.now
          c.args.second.now w joints lawful are n before other long here there
          (ShowsKnown k First shows ending lines) (λ j. ending ≡ Done → IsShown k First j shows lines)
          (is_shown k First shows ending lines) after
          (shown_ran g.D.Disk.state g.W.Draws.at k First (known_in k First (joints n)) read.0 read.1 before after
          ends shows ending lines in_world),
      λ crashed leaves. first_onward g.D.Disk.state g.met.D.Disk.lawful g.E.Disk.state g.met.E.Disk.lawful g.W.Draws.at k grounds
          c.args.first.now c.args.second.now w joints lawful are n before other long here there (λ known. ⊤)
          (λ j. ⊤) (λ j is. tt) crashed (
            known_in k First (joints n),
            shown_cut g.D.Disk.state g.W.Draws.at k First (known_in k First (joints n)) read.0 read.1 before after
                ends shows crashed leaves ending lines in_world,
            tt,
          ),
    )

pub returns-clause-second : goal.returns-clause-second
returns-clause-second g c = λ k law w joints lawful are n before after other bytes long here there told ends shows ending lines runs.
    let grounds = c.client_grounds.ensures k law in
    let read = second_found g.D.Disk.state g.met.D.Disk.lawful g.E.Disk.state g.met.E.Disk.lawful g.W.Draws.at k grounds c.args.first.now
    c.args.second.now w joints lawful are n other before long there here bytes told in
    let in_world = runs.in_worlds read.0 Second read.2 read.3 in (
      second_onward g.D.Disk.state g.met.D.Disk.lawful g.E.Disk.state g.met.E.Disk.lawful g.W.Draws.at k grounds c.args.first.now
          c.args.second.now w joints lawful are n other before long there here
          (ShowsKnown k Second shows ending lines) (λ j. ending ≡ Done → IsShown k Second j shows lines)
          (is_shown k Second shows ending lines) after
          (shown_ran g.E.Disk.state g.W.Draws.at k Second (known_in k Second (joints n)) read.0 read.1 before after
          ends shows ending lines in_world),
      λ crashed leaves. second_onward g.D.Disk.state g.met.D.Disk.lawful g.E.Disk.state g.met.E.Disk.lawful g.W.Draws.at k grounds
          c.args.first.now c.args.second.now w joints lawful are n other before long there here (λ known. ⊤)
          (λ j. ⊤) (λ j is. tt) crashed (
            known_in k Second (joints n),
            shown_cut g.E.Disk.state g.W.Draws.at k Second (known_in k Second (joints n)) read.0 read.1 before after
                ends shows crashed leaves ending lines in_world,
            tt,
          ),
    )
