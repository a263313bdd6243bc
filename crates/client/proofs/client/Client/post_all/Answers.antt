use Rattle.std.proofs.Common.{arith, false, subst, sym, true, ◌∙◌, ◌≡◌}
use Rattle.relay_wire.specs.Requests.{posts, bare_request}
use Rattle.sync_model.specs.Moves.{posting, waits_by}
use Rattle.sync_model.specs.declared.more.More.TheVariants.{End}
use Rattle.client.specs.Syncing.InOrder.{InOrder, spot}
use Rattle.client.specs.Syncing.Moments.{moment}
use Rattle.client.specs.Syncing.Parties.{party_at, waiting}
use Rattle.client.specs.Syncing.Rounds.{goes_on, stops}
use Rattle.client.proofs.Syncs.Looping.{goes_ready, none_left}
use Rattle.client.proofs.Syncs.Oldest.{one_waits}
use Rattle.client.proofs.Syncs.Requests.{leaves_again, leaves_all}
use Rattle.client.proofs.Syncs.Rounds.{post_goes}
use Rattle.client.proofs.client.Client.post_all.Goals as goal

pub returns-in-Err-clause-posts : goal.returns-in-Err-clause-posts
returns-in-Err-clause-posts g c = λ which first before earlier empty along.
    let oldest = one_waits c.packets.self.kept.outbox (c.waits.ensures.0 c.packets-test.true) in
    post_goes g.D.Disk.state g.L.Pipe.port g.O.Sink.at (party_at g.K.Kem.mechanism c.args.prefix.now c.args.boxes.now)
    (spot first before earlier empty) (spot c.packets.self c.packets.disk c.packets.link c.packets.out) c.packets.tokens c.post.new.tokens
    (spot c.post.new.self c.post.new.disk c.post.new.link c.post.new.out) which oldest.0 (stops c.in-Err.fault) oldest.1
    (c.packets.invariant.along which first before earlier empty along) (c.in-Err.ensures.round which oldest.0 oldest.1)

pub packets-preserved : goal.packets-preserved
packets-preserved g c = record {
  along = λ which first before earlier empty along.
      let oldest = one_waits c.packets.self.kept.outbox (c.waits.ensures.0 c.packets-test.true) in
      post_goes g.D.Disk.state g.L.Pipe.port g.O.Sink.at (party_at g.K.Kem.mechanism c.args.prefix.now c.args.boxes.now)
      (spot first before earlier empty) (spot c.packets.self c.packets.disk c.packets.link c.packets.out) c.packets.tokens c.post.new.tokens
      (spot c.post.new.self c.post.new.disk c.post.new.link c.post.new.out) which oldest.0 (goes_on (waits_by (waiting c.post.new.self.kept) which)) oldest.1
      (c.packets.invariant.along which first before earlier empty along) (c.in-Ok.ensures.round which oldest.0 oldest.1);
  ready = (let oldest = one_waits c.packets.self.kept.outbox (c.waits.ensures.0 c.packets-test.true) in
      goes_ready (party_at g.K.Kem.mechanism c.args.prefix.now c.args.boxes.now) (posting End) (waits_by (waiting c.post.new.self.kept) End)
      (bare_request c.args.boxes.now.names.peers (posts oldest.0)) c.packets.tokens c.post.new.tokens
      (moment c.packets.self (g.D.Disk.state c.packets.disk) (g.O.Sink.at c.packets.out))
      (moment c.post.new.self (g.D.Disk.state c.post.new.disk) (g.O.Sink.at c.post.new.out))
      (g.L.Pipe.port c.packets.link) (g.L.Pipe.port c.post.new.link) (c.in-Ok.ensures.round End oldest.0 oldest.1));
  later = omega (arith, c.packets.invariant.later, c.post.ensures.later);
  link = leaves_again g.L.Pipe.port g.L.Pipe.behind _ _ _ c.packets.invariant.link c.post.ensures.link;
}

pub returns-clause-posts : goal.returns-clause-posts
returns-clause-posts g c = λ which first before earlier empty along.
    subst (λ wait. InOrder g.D.Disk.state g.L.Pipe.port g.O.Sink.at (party_at g.K.Kem.mechanism c.args.prefix.now c.args.boxes.now)
    (spot first before earlier empty) (spot c.packets.self c.packets.disk c.packets.link c.packets.out) wait c.packets.tokens)
    (none_left c.packets.self.kept.outbox (λ some. let e : true ≡ false = sym (c.waits.ensures.1 some) ∙ c.packets-test.false in cc) which)
    (c.packets.invariant.along which first before earlier empty along)

pub packets-init : goal.packets-init
packets-init g c = record {
  along = λ which first before earlier empty along. along;
  ready = c.requires;
  later = omega arith;
  link = leaves_all g.L.Pipe.port g.L.Pipe.behind c.args.link.now;
}

pub returns-in-Err-clause-link : goal.returns-in-Err-clause-link
returns-in-Err-clause-link g c = leaves_again g.L.Pipe.port g.L.Pipe.behind _ _ _ c.packets.invariant.link c.post.ensures.link
