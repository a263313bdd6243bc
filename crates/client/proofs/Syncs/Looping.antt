-- The loops of a sync: which round comes next.
use Rattle.std.proofs.Common.{Bool, List, None, Some, [], ap, arith, false, refl, true, ℕ, ◌+◌, ◌<◌, ◌==◌, ◌∷◌, ◌≡◌}
use Rattle.std.specs.Prelude.{if◌then◌else◌, length, map, slice_get}
use Rattle.std.proofs.lemmas.Bool.Decides.{nat_tests}
use Rattle.boxes.specs.Posts.{Post}
use Rattle.dr_ports.specs.Wires.{Port}
use Rattle.relay_wire.specs.Requests.{Asked, posts, bare_request}
use Rattle.session_model.specs.Clients.{Client}
use Rattle.sync_model.specs.Moves.{Wait, acking, acknowledged, ended, fetching, goes, over, posting, posting_of, waits_by}
use Rattle.sync_model.specs.Parties.{Party}
use Rattle.sync_model.specs.Tokens.{Tokens}
use Rattle.sync_model.specs.declared.limits.TheConstants.{ITEM_LIMIT}
use Rattle.sync_model.specs.declared.more.More.{More}
use Rattle.sync_model.specs.declared.more.More.TheVariants.{More as MoreStands}
use Rattle.client.specs.Clients.{ClientNow, IsOpenOn, IsReady}
use Rattle.client.specs.Syncing.Moments.{Moment}
use Rattle.client.specs.Syncing.Rounds.{Hears, Idles, IsRound, RoundEnd, goes_on, heard, heard_as, was_broken, was_unheard, went_on}
use Rattle.client.specs.Syncing.SoFar.{collecting}
use Rattle.client.proofs.Syncs.Turning.{idle_turns, still_again}

-- ---- the first part

pub fetches_now : (packets : List (List ℕ)) (n : ℕ) → n < ITEM_LIMIT → collecting packets n ≡ fetching n
fetches_now packets n lt = by_test (n == ITEM_LIMIT) (grind (arith, nat_tests, lt))
  where
    by_test : (test : Bool) → test ≡ false → (if test then waits_by packets MoreStands else fetching n) ≡ fetching n
    by_test false is = refl
    by_test true is = absurd (let e : true ≡ false = is in cc)

pub one_more : (p : Party Client) (s : Client) (n : ℕ) → (acknowledged p s n).wait ≡ collecting (p.outbox s) (n + 1)
one_more p s n = by_test (n + 1 == ITEM_LIMIT)
  where
    by_test : (test : Bool) → (if test then goes p s (waits_by (p.outbox s) MoreStands) else goes p s (fetching (n + 1))).wait
        ≡ (if test then waits_by (p.outbox s) MoreStands else fetching (n + 1))
    by_test true = refl
    by_test false = refl

-- all that a sync takes were acknowledged
pub all_taken : (packets : List (List ℕ)) (n : ℕ) → n ≡ ITEM_LIMIT → collecting packets n ≡ waits_by packets MoreStands
all_taken packets n is = by_test (n == ITEM_LIMIT) (grind (arith, nat_tests, is))
  where
    by_test : (test : Bool) → test ≡ true → (if test then waits_by packets MoreStands else fetching n) ≡ waits_by packets MoreStands
    by_test true is_true = refl
    by_test false is_true = absurd (let e : false ≡ true = is_true in cc)

-- an acknowledgement as a round
pub acks_round : (p : Party Client) (b : Moment) (client : ClientNow) (n number : ℕ) (asked : Asked) (old new : Tokens) (start now : Port) (turn : RoundEnd)
    → client ≡ b.client → b.client.closed ≡ None → IsReady b.client.kept b.client.store b.disk
    → Hears p.keys old new asked start now (λ reply again turning. Idles p b.client.kept (heard_as p b.client.kept (acking n number) reply again) turning) (Unit {0}) turn
    → IsRound p (acking n number) asked old new b (record b { client = client }) start now turn
acks_round p b client n number asked old new start now turn same is_open ready (heard reply again turning is idles) =
    heard reply again turning is
    (idle_turns p b (record b { client = client }) (heard_as p b.client.kept (acking n number) reply again) turning idles (still_again b client same is_open ready))
acks_round p b client n number asked old new start now turn same is_open ready (was_broken broken still) = was_broken broken (still_again b client same is_open ready)
acks_round p b client n number asked old new start now turn same is_open ready (was_unheard at kind faulty still) = was_unheard at kind faulty (still_again b client same is_open ready)

-- ---- the second part

pub none_left : (items : List Post) → (0 < length items → ⊥) → (which : More) → waits_by (map (λ (i : Post). i.packet) items) which ≡ over (ended which)
none_left [] not which = refl
none_left (item ∷ items) not which = absurd (not (omega arith))

pub posts_now : (packets : List (List ℕ)) (packet : List ℕ) → Some packet ≡ slice_get packets 0 → (which : More) → waits_by packets which ≡ posting which
posts_now [] packet is which = absurd (let e : Some packet ≡ None = is in cc)
posts_now (x ∷ xs) packet is which = refl

pub asks_post : (packets : List (List ℕ)) (packet : List ℕ) → Some packet ≡ slice_get packets 0 → (name : List ℕ)
    → posting_of name packets ≡ Some (bare_request name (posts packet))
asks_post [] packet is name = absurd (let e : Some packet ≡ None = is in cc)
asks_post (x ∷ xs) packet is name = ap (λ (b : List ℕ). Some (bare_request name (posts b))) (let e : Some packet ≡ Some x = is in let f : x ≡ packet = cc in f)

-- a round that the sync goes on after leaves the client open and ready
pub goes_ready : (p : Party Client) (wait next : Wait) (asked : Asked) (old new : Tokens) (a b : Moment) (start now : Port)
    → IsRound p wait asked old new a b start now (goes_on next) → IsOpenOn b.client b.disk
goes_ready p wait next asked old new a b start now (heard reply again turning is (went_on n waits moved wrote)) = (moved.is_open, moved.ready)
