use Rattle.std.proofs.Common.{ap, refl}
use Rattle.dr_model.specs.Machines.Sides.{client_of}
use Rattle.session_model.specs.Clients.{Client}
use Rattle.duet.specs.Held.{beside}
use Rattle.duet.specs.Outcomes.{lines_alone}
use Rattle.duet.specs.Replies.{shown_long}
use Rattle.duet.proofs.PlayedDeeds.{goes_told}
use Rattle.duet.proofs.joining.play_joining.Goals as goal

pub returns : goal.returns
returns g c tally =
    let side = c.args.side in
    let id = c.args.id in
    let made = lines_alone (shown_long side id (client_of c.args.duet.sides side).inbox) (beside c.args.duet) in
    goes_told side made c.args.duet c.args.duet tally _ _ _ c.write_joined-written.result _ refl refl
    (ap (λ (kept : Client). shown_long side id kept.inbox) c.party.ensures.kept) c.unless_failed.ensures c.write_joined-written.ensures
