use Rattle.std.proofs.Common.{List, None, [], ap, ap₂, ◌∙◌, ◌≡◌, ℕ}
use Rattle.std.specs.Prelude.{vec_capacity}
use Rattle.boxes.specs.Posts.{Post}
use Rattle.dr_base.specs.declared.position.Side.TheVariants.{First, Second}
use Rattle.dr_model.specs.Conversations.Formats.{Formats}
use Rattle.dr_model.specs.Machines.Draws.{Draws}
use Rattle.relay_core.specs.Boxes.{Box}
use Rattle.relay_link.specs.Connections.{boxes_now}
use Rattle.client.specs.Syncing.Lines.{own_box, peers_box}
use Rattle.duet.specs.Held.{duet_now, opening_of}
use Rattle.duet.specs.Relay.{boxes_where, opening_boxes}
use Rattle.parties.specs.Shuts.{PartyNow, open_party}
use Rattle.duet.proofs.sides.Duet.new.Goals as goal

pub returns-in-Ok-begin-2-clause-ok : goal.returns-in-Ok-begin-2-clause-ok
returns-in-Ok-begin-2-clause-ok g c =
    let k = g.K.Kem.mechanism in
    let key = c.args.key.now.bytes in
    let both : Formats = record { first = c.args.first_format; second = c.args.second_format } in
    let begun = opening_of k key both First in
    let first = c.in-Ok-begin.ensures.ok in
    let second = c.in-Ok-begin-2.ensures.ok in
    let guarded = c.args.guarded in
    let boxes : boxes_now c.in-Ok-opening_relay.relay ≡ opening_boxes guarded key begun =
    c.in-Ok-opening_relay.ensures
    ∙ ap₂ (boxes_where guarded key) (c.names.ensures.own ∙ ap (λ (p : PartyNow). own_box p.kept) first) (c.names.ensures.peers ∙ ap (λ (p : PartyNow). peers_box p.kept) first) in
    ap₂ (λ (a b : PartyNow).
    duet_now key a b c.in-Ok.posts.items c.new.result (boxes_now c.in-Ok-opening_relay.relay) (vec_capacity c.in-Ok.posts))
    first second
    ∙ ap₂ (λ (posts : List Post) (draws : Draws).
    duet_now key (open_party begun) (open_party (opening_of k key both Second)) posts draws (boxes_now c.in-Ok-opening_relay.relay) (vec_capacity c.in-Ok.posts))
    c.in-Ok.ensures.items c.new.ensures
    ∙ ap₂ (λ (held : List Box) (room : ℕ).
    duet_now key (open_party begun) (open_party (opening_of k key both Second)) [] (record { made = 0; given = None }) held room)
    boxes c.in-Ok.ensures.exact
