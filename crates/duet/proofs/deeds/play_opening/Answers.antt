use Rattle.std.proofs.Common.{Option, ap, ◌∙◌}
use Rattle.std.specs.Prelude.{option_map}
use Rattle.session_model.specs.Clients.{Client}
use Rattle.duet.specs.Gathering.{gathers}
use Rattle.parties.specs.Shuts.{Shut}
use Rattle.duet.specs.Shuts.{shut_of}
use Rattle.duet.proofs.PlayedDeeds.{goes_opened, goes_unopened}
use Rattle.duet.proofs.deeds.play_opening.Goals as goal

pub returns-then-is_none : goal.returns-then-is_none
returns-then-is_none g c tally =
    let shut = shut_of c.args.duet.shuts c.args.side in
    let shown = c.closed_by.ensures ∙ ap (λ (o : Option (Shut Client)). option_map (λ (left : Shut Client). left.call) o) c.party.ensures.shut in
    goes_unopened c.args.side c.args.duet (gathers c.args.duet.sides c.args.side) tally _ _ c.closed_by.result _ shut _ c.write_line-written.result _
    shown c.is_none.ensures c.if-is_none.true c.open_line.ensures c.unless_failed.ensures c.write_line-written.ensures

pub returns-in-Ok : goal.returns-in-Ok
returns-in-Ok g c tally =
    let shut = shut_of c.args.duet.shuts c.args.side in
    let shown = c.closed_by.ensures ∙ ap (λ (o : Option (Shut Client)). option_map (λ (left : Shut Client). left.call) o) c.party.ensures.shut in
    goes_opened c.args.side c.args.duet c.in-Ok.next (gathers c.args.duet.sides c.args.side) tally _ _ c.closed_by.result _ shut _
    c.write_line-written-in-Ok.result _ shown c.is_none.ensures c.if-is_none.false c.in-Ok.ensures c.open_line-in-Ok.ensures
    c.unless_failed-in-Ok.ensures c.write_line-written-in-Ok.ensures
