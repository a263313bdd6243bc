use Rattle.std.specs.Prelude.{⊤}
use Rattle.dr_base.specs.declared.position.Side.TheVariants.{First, Second}
use Rattle.conversation.specs.Joints.{known_in}
use Rattle.conversation.specs.Shown.{HasSynced}
use Rattle.conversation.proofs.Onward.Running.{first_found, first_onward, second_found, second_onward}
use Rattle.conversation.proofs.Onward.Syncing.{SyncsKnown, has_synced, sync_cut, sync_ran}
use Rattle.conversation.proofs.going_on.goes_on_syncing.Goals as goal

pub returns-clause-first : goal.returns-clause-first
returns-clause-first g c = λ k law w joints lawful are n before after other bytes long here there told
    address link left missed lost ending lines runs fair.
    let grounds = c.client_grounds.ensures k law in
    let known = known_in k First (joints n) in
    let read = first_found g.D.Disk.state g.met.D.Disk.lawful g.E.Disk.state g.met.E.Disk.lawful g.W.Draws.at k grounds c.args.first.now
    c.args.second.now w joints lawful are n before other long here there bytes told in (
      first_onward g.D.Disk.state g.met.D.Disk.lawful g.E.Disk.state g.met.E.Disk.lawful g.W.Draws.at k grounds c.args.first.now
          c.args.second.now w joints lawful are n before other long here there
          (SyncsKnown First known ending lines) (λ j. HasSynced First known j ending lines)
          (has_synced k First known ending lines) after
          (sync_ran g.D.Disk.state g.W.Draws.at g.L.Pipe.port k grounds First known read.0 read.1 read.2 before after
          read.3 address link left missed lost ending lines runs (fair read.0 read.1)),
      λ crashed leaves.
          let cut = sync_cut g.D.Disk.state g.W.Draws.at g.L.Pipe.port k grounds First known read.0 read.1 read.2
          before after read.3 address link left missed lost crashed leaves ending lines runs
          (fair read.0 read.1) in
          first_onward g.D.Disk.state g.met.D.Disk.lawful g.E.Disk.state g.met.E.Disk.lawful g.W.Draws.at k grounds c.args.first.now
          c.args.second.now w joints lawful are n before other long here there (λ later. ⊤) (λ j. ⊤)
          (λ j is. tt) crashed (cut.0, cut.1, tt),
    )

pub returns-clause-second : goal.returns-clause-second
returns-clause-second g c = λ k law w joints lawful are n before after other bytes long here there told
    address link left missed lost ending lines runs fair.
    let grounds = c.client_grounds.ensures k law in
    let known = known_in k Second (joints n) in
    let read = second_found g.D.Disk.state g.met.D.Disk.lawful g.E.Disk.state g.met.E.Disk.lawful g.W.Draws.at k grounds c.args.first.now
    c.args.second.now w joints lawful are n other before long there here bytes told in (
      second_onward g.D.Disk.state g.met.D.Disk.lawful g.E.Disk.state g.met.E.Disk.lawful g.W.Draws.at k grounds c.args.first.now
          c.args.second.now w joints lawful are n other before long there here
          (SyncsKnown Second known ending lines) (λ j. HasSynced Second known j ending lines)
          (has_synced k Second known ending lines) after
          (sync_ran g.E.Disk.state g.W.Draws.at g.L.Pipe.port k grounds Second known read.0 read.1 read.2 before after
          read.3 address link left missed lost ending lines runs (fair read.0 read.1)),
      λ crashed leaves.
          let cut = sync_cut g.E.Disk.state g.W.Draws.at g.L.Pipe.port k grounds Second known read.0 read.1 read.2
          before after read.3 address link left missed lost crashed leaves ending lines runs
          (fair read.0 read.1) in
          second_onward g.D.Disk.state g.met.D.Disk.lawful g.E.Disk.state g.met.E.Disk.lawful g.W.Draws.at k grounds c.args.first.now
          c.args.second.now w joints lawful are n other before long there here (λ later. ⊤) (λ j. ⊤)
          (λ j is. tt) crashed (cut.0, cut.1, tt),
    )
