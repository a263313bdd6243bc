use Rattle.std.proofs.Common.{[], ◌∷◌, ap, ap₂, ◌∙◌}
use Rattle.relay_core.specs.Boxes.{empty_box}
use Rattle.relay_core.specs.declared.spec.BoxSpec.{BoxSpec}
use Rattle.relay_link.specs.Connections.{boxes_now}
use Rattle.relay_link.proofs.Bringing.{same_boxes}
use Rattle.duet.specs.Relay.{spec_where}
use Rattle.duet.proofs.relaying.opening_relay.Goals as goal

pub returns : goal.returns
returns c =
    let keys = c.both_keys.ensures in
    let own : BoxSpec = c.spec_where-own.result in
    ap boxes_now c.in_ok-relay.ensures ∙ same_boxes (empty_box own ∷ empty_box c.spec_where-peers.result ∷ [])
    ∙ ap₂ (λ (a b : BoxSpec). empty_box a ∷ empty_box b ∷ [])
    (c.spec_where-own.ensures ∙ ap (spec_where c.args.guarded c.args.names.own) keys.first)
    (c.spec_where-peers.ensures ∙ ap (spec_where c.args.guarded c.args.names.peers) keys.second)
