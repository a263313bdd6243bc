use Rattle.std.proofs.Common.{refl, ◌≡◌}
use Rattle.dr_base.specs.declared.position.Side.TheVariants.{First, Second}
use Rattle.conversation.specs.Joints.{known_in}
use Rattle.conversation.proofs.Onward.Running.{first_found, first_onward, second_found, second_onward}
use Rattle.conversation.proofs.Onward.Staying.{begin_cut, begin_ran, begin_undone}
use Rattle.conversation.proofs.going_on.goes_on_beginning.Goals as goal

pub returns-clause-first : goal.returns-clause-first
returns-clause-first g c = λ k law w joints lawful are n before after other bytes long here there told
    whose format from to ending lines runs.
    let grounds = c.client_grounds.ensures k law in
    let known = known_in k First (joints n) in
    let read = first_found g.D.Disk.state g.met.D.Disk.lawful g.E.Disk.state g.met.E.Disk.lawful g.W.Draws.at k grounds c.args.first.now
    c.args.second.now w joints lawful are n before other long here there bytes told in (
      begin_undone g.D.Disk.state g.W.Draws.at k c.readings.ensures First known read.0 read.1 before after read.3
          whose format from to ending lines runs,
      first_onward g.D.Disk.state g.met.D.Disk.lawful g.E.Disk.state g.met.E.Disk.lawful g.W.Draws.at k grounds c.args.first.now
          c.args.second.now w joints lawful are n before other long here there (λ later. later ≡ known)
          (λ j. known_in k First j ≡ known) (λ j is. is) after (
            known,
            begin_ran g.D.Disk.state g.W.Draws.at k c.readings.ensures First known read.0 read.1 before after
                read.3 whose format from to ending lines runs,
            refl,
          ),
      λ crashed leaves. first_onward g.D.Disk.state g.met.D.Disk.lawful g.E.Disk.state g.met.E.Disk.lawful g.W.Draws.at k grounds
          c.args.first.now c.args.second.now w joints lawful are n before other long here there
          (λ later. later ≡ known) (λ j. known_in k First j ≡ known) (λ j is. is) crashed (
            known,
            begin_cut g.D.Disk.state g.W.Draws.at k c.readings.ensures First known read.0 read.1 before after
                read.3 whose format from to g.met.D.Disk.lawful crashed leaves ending lines runs,
            refl,
          ),
    )

pub returns-clause-second : goal.returns-clause-second
returns-clause-second g c = λ k law w joints lawful are n before after other bytes long here there told
    whose format from to ending lines runs.
    let grounds = c.client_grounds.ensures k law in
    let known = known_in k Second (joints n) in
    let read = second_found g.D.Disk.state g.met.D.Disk.lawful g.E.Disk.state g.met.E.Disk.lawful g.W.Draws.at k grounds c.args.first.now
    c.args.second.now w joints lawful are n other before long there here bytes told in (
      begin_undone g.E.Disk.state g.W.Draws.at k c.readings.ensures Second known read.0 read.1 before after read.3
          whose format from to ending lines runs,
      second_onward g.D.Disk.state g.met.D.Disk.lawful g.E.Disk.state g.met.E.Disk.lawful g.W.Draws.at k grounds c.args.first.now
          c.args.second.now w joints lawful are n other before long there here (λ later. later ≡ known)
          (λ j. known_in k Second j ≡ known) (λ j is. is) after (
            known,
            begin_ran g.E.Disk.state g.W.Draws.at k c.readings.ensures Second known read.0 read.1 before after
                read.3 whose format from to ending lines runs,
            refl,
          ),
      λ crashed leaves. second_onward g.D.Disk.state g.met.D.Disk.lawful g.E.Disk.state g.met.E.Disk.lawful g.W.Draws.at k grounds
          c.args.first.now c.args.second.now w joints lawful are n other before long there here
          (λ later. later ≡ known) (λ j. known_in k Second j ≡ known) (λ j is. is) crashed (
            known,
            begin_cut g.E.Disk.state g.W.Draws.at k c.readings.ensures Second known read.0 read.1 before after
                read.3 whose format from to g.met.E.Disk.lawful crashed leaves ending lines runs,
            refl,
          ),
    )
