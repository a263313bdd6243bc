-- The rounds of a sync's loops: each leads on from where the sync is.
use Rattle.std.proofs.Common.{List, Some, refl, subst, ℕ, ◌≡◌}
use Rattle.std.specs.Prelude.{slice_get}
use Rattle.dr_disk.specs.State.{DiskState}
use Rattle.dr_ports.specs.States.{SinkState}
use Rattle.dr_ports.specs.Wires.{Port}
use Rattle.relay_wire.specs.Requests.{acks, bare_request, fetches, posts}
use Rattle.session_model.specs.Clients.{Client}
use Rattle.sync_model.specs.Moves.{Wait, acking, fetching, posting, waits_by}
use Rattle.sync_model.specs.Parties.{Party}
use Rattle.sync_model.specs.Tokens.{Tokens}
use Rattle.sync_model.specs.declared.more.More.{More}
use Rattle.client.specs.Clients.{ClientNow}
use Rattle.client.specs.Syncing.InOrder.{InOrder, Leaves, Spot, moment_at, spot}
use Rattle.client.specs.Syncing.Rounds.{Hears, Idles, IsRound, RoundEnd, heard_as}
use Rattle.client.proofs.Syncs.InOrder.{goes_in_order}
use Rattle.client.proofs.Syncs.Looping.{acks_round, asks_post, posts_now}

module _ {X Y Z : Type 0} (state : X → DiskState) (port : Y → Port) (taken : Z → SinkState) (p : Party Client) (a b : Spot X Y Z) (old new : Tokens) where
  abbrev Along : Wait → Type 0
  Along wait = InOrder state port taken p a b wait old

  pub fetch_goes : (c : Spot X Y Z) (n : ℕ) (turn : RoundEnd) → Along (fetching n)
      → IsRound p (fetching n) (bare_request p.own fetches) old new (moment_at state port taken p b) (moment_at state port taken p c) (port b.link) (port c.link) turn
      → Leaves state port taken p new a c turn
  fetch_goes c n turn along round =
      goes_in_order state port taken p a b (fetching n) old along c new
      (bare_request p.own fetches) refl turn round

  pub ack_goes : (client : ClientNow) (link : Y) (n number : ℕ) (turn : RoundEnd) → client ≡ b.client → Along (acking n number)
      → Hears p.keys old new (bare_request p.own (acks number)) (port b.link) (port link)
      (λ reply again turning. Idles p b.client.kept (heard_as p b.client.kept (acking n number) reply again) turning) (Unit {0}) turn
      → Leaves state port taken p new a (spot client b.disk link b.sink) turn
  ack_goes client link n number turn same along hears =
      goes_in_order state port taken p a b (acking n number) old along (spot client b.disk link b.sink) new
      (bare_request p.own (acks number)) refl turn
      (acks_round p (moment_at state port taken p b) client n number (bare_request p.own (acks number)) old new (port b.link) (port link) turn
      same along.far.stands.is_open along.far.stands.ready hears)

  pub post_goes : (c : Spot X Y Z) (which : More) (packet : List ℕ) (turn : RoundEnd) → Some packet ≡ slice_get (p.outbox b.client.kept) 0
      → Along (waits_by (p.outbox b.client.kept) which)
      → IsRound p (posting which) (bare_request p.peers (posts packet)) old new (moment_at state port taken p b) (moment_at state port taken p c)
      (port b.link) (port c.link) turn
      → Leaves state port taken p new a c turn
  post_goes c which packet turn oldest along round =
      goes_in_order state port taken p a b (posting which) old (subst Along (posts_now (p.outbox b.client.kept) packet oldest which) along) c new
      (bare_request p.peers (posts packet)) (asks_post (p.outbox b.client.kept) packet oldest p.peers) turn round
