use Rattle.std.proofs.Common.{ap, subst, sym, ◌∙◌}
use Rattle.std.specs.Prelude.{All}
use Rattle.dr_disk.specs.MemoryDisks.{state_of}
use Rattle.relay_core.specs.Lawful.{IsLawfulBox}
use Rattle.relay_link.specs.Connections.{LinkConnection, behind_of, boxes_now, kept_before, connection_port}
use Rattle.relay_wire.specs.Names.{is_name}
use Rattle.client.specs.Syncing.Moments.{moment}
use Rattle.client.specs.Syncing.Parties.{client_party}
use Rattle.client.specs.Syncing.Syncs.{Syncs, SyncsBy}
use Rattle.parties.proofs.Meets.{comes_to_end, plays}
use Rattle.parties.proofs.meeting.meet.Goals as goal

pub returns-clause-plays : goal.returns-clause-plays
returns-clause-plays g c =
    let k = g.K.Kem.mechanism in
    let link = c.args.link.now in
    let now = c.sync-result.new.link in
    let before = moment c.args.client.now (state_of c.args.disk.now) (g.O.Sink.at c.args.out.now) in
    let after = moment c.sync-result.new.self (state_of c.sync-result.new.disk) (g.O.Sink.at c.sync-result.new.out) in
    plays k c.args.prefix.now (kept_before c.args.lost) (boxes_now link) before after now
    (sym (ap is_name c.names-names.ensures.own) ∙ c.names-names.ensures.own_lawful) (sym (ap is_name c.names-names.ensures.peers) ∙ c.names-names.ensures.peers_lawful)
    c.may_post.ensures.packets (subst (All IsLawfulBox) c.relay.ensures.boxes c.lawful.ensures) c.requires.passes
    (c.sync-result.ensures.link.stands ∙ ap behind_of c.connect.ensures) c.relay-relay.ensures.lawful c.sync-result.ensures.later c.sync-result.result
    (subst (λ (x : LinkConnection). Syncs (client_party k c.args.prefix.now c.args.client.now.kept) before after (connection_port x) (connection_port now) c.sync-result.result)
    c.connect.ensures (c.sync-result.ensures.syncs c.requires.is_open).exact)

pub returns-clause-served : goal.returns-clause-served
returns-clause-served g c =
    let k = g.K.Kem.mechanism in
    let link = c.args.link.now in
    let now = c.sync-result.new.link in
    let before = moment c.args.client.now (state_of c.args.disk.now) (g.O.Sink.at c.args.out.now) in
    let after = moment c.sync-result.new.self (state_of c.sync-result.new.disk) (g.O.Sink.at c.sync-result.new.out) in
    let syncs = subst (λ (x : LinkConnection). Syncs (client_party k c.args.prefix.now c.args.client.now.kept) before after (connection_port x) (connection_port now) c.sync-result.result)
    c.connect.ensures (c.sync-result.ensures.syncs c.requires.is_open).exact in
    let syncs_by = subst (λ (x : LinkConnection). SyncsBy (client_party k c.args.prefix.now c.args.client.now.kept) syncs.replies before after (connection_port x) (connection_port now) c.sync-result.result)
    (sym c.connect.ensures) syncs.syncs in
    let done = (c.sync-result.ensures.syncs c.requires.is_open).done syncs.replies syncs_by in
    comes_to_end k c.args.prefix.now (kept_before c.args.lost) (boxes_now link) before after now
    (sym (ap is_name c.names-names.ensures.own) ∙ c.names-names.ensures.own_lawful) (sym (ap is_name c.names-names.ensures.peers) ∙ c.names-names.ensures.peers_lawful)
    c.may_post.ensures.packets (subst (All IsLawfulBox) c.relay.ensures.boxes c.lawful.ensures) c.requires.passes
    (c.sync-result.ensures.link.stands ∙ ap behind_of c.connect.ensures) c.relay-relay.ensures.lawful c.sync-result.ensures.later c.sync-result.result
    syncs c.may_post.ensures.few done.transfer done.opens
