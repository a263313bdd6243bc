-- A sync against the boxes of a relay.
use Rattle.std.specs.Prelude.{◌≡◌, ◌≢◌, ⊤, ℕ, zero, suc, ◌+◌, ◌*◌, ◌^◌, ◌<◌, ◌≤◌, false, List, [], ◌∷◌, length, drop, Option, Some, None, option_map}
use Rattle.std.specs.List.{AllByRecursion}
use Rattle.std.specs.Str.{bytes_eq}
use Rattle.relay_guard.specs.Guards.{key_of, last_of, with_last}
use Rattle.relay_guard.specs.declared.guard.Guard.{Guard}
use Rattle.relay_guard.specs.declared.guard.Role.{Role}
use Rattle.relay_guard.specs.declared.guard.Role.TheVariants.{Owner, Poster}
use Rattle.relay_wire.specs.Requests.{Asked}
use Rattle.relay_core.specs.Boxes.{Kept, Box, answers_of, box_of, with_packet}
use Rattle.relay_core.specs.declared.limits.TheConstants.{BOX_LIMIT}
use Rattle.sync_model.specs.Parties.{Party}
use Rattle.sync_model.specs.Moves.{Wait, over, ended, waits_by}
use Rattle.sync_model.specs.Courses.{Course, asked_now, begun, read_one}
use Rattle.sync_model.specs.Tokens.{SyncKeys, key_under}
use Rattle.sync_model.specs.declared.limits.TheConstants.{ITEM_LIMIT}
use Rattle.sync_model.specs.declared.more.More.TheVariants.{End}

-- ---- a sync, and the boxes that it meets

pub record Meeting (S : Type 0) : Type 0 where
  pub course : Course S
  pub boxes : List Box

module _ {S : Type 0} (p : Party S) where
  abbrev pub begins : S → List Box → Meeting S
  begins s boxes = record { course = begun p s; boxes = boxes }

  -- the relay replies to the request, and the reply is read
  abbrev pub answered : Meeting S → Option Asked → Meeting S
  answered m None = m
  answered m (Some asked) = record {
    course = read_one p m.course (answers_of m.boxes asked).reply;
    boxes = (answers_of m.boxes asked).next;
  }

  abbrev pub meets : Meeting S → Meeting S
  meets m = answered m (asked_now p m.course)

  abbrev pub meet_times : ℕ → Meeting S → Meeting S
  meet_times zero m = m
  meet_times (suc n) m = meet_times n (meets m)

-- ---- what it leads to

-- numbers that differ
abbrev pub HaveOtherNumbers : List Kept → Type 0
HaveOtherNumbers [] = ⊤
HaveOtherNumbers (kept ∷ more) = AllByRecursion (λ other. other.number ≢ kept.number) more × HaveOtherNumbers more

-- the box without its packets
abbrev pub emptied : Box → Box
emptied box = record box { packets = [] }

-- the box with these packets after its own, under the next numbers
abbrev pub with_posts : Box → List (List ℕ) → Box
with_posts box [] = box
with_posts box (packet ∷ packets) = with_posts (with_packet box packet) packets

-- ---- guarded boxes

-- the guard once this many more requests were served under a key
abbrev pub counted_on : Role → ℕ → Guard → Guard
counted_on role n guard = with_last guard role (last_of guard role + n)

abbrev pub counted : Role → ℕ → Box → Box
counted role n box = record box { guard = option_map (counted_on role n) box.guard }

-- a guard has the sync's key
abbrev pub IsGuardedFor : Option SyncKeys → Role → Option Guard → Type 0
IsGuardedFor keys role None = ⊤
IsGuardedFor None role (Some guard) = ⊥
IsGuardedFor (Some keys) role (Some guard) = key_of guard role ≡ key_under keys role

-- counters for this many requests are left
abbrev pub HasCounters : Role → ℕ → Option Guard → Type 0
HasCounters role n None = ⊤
HasCounters role n (Some guard) = last_of guard role + n < 2 ^ 64

-- a box keeps these packets too, of one who has these keys
pub record HasRoomForAll (keys : Option SyncKeys) (packets : List (List ℕ)) (box : Box)
    : Type 0 where
  pub key : IsGuardedFor keys Poster box.guard
  pub room : length box.packets + length packets ≤ BOX_LIMIT
  pub numbers : box.last + length packets < 2 ^ 64
  pub counters : HasCounters Poster (length packets) box.guard

module _ {S : Type 0} (p : Party S) where
  -- what is kept once these packets were taken in turn
  abbrev pub taken_all : S → List Kept → S
  taken_all s [] = s
  taken_all s (kept ∷ more) = taken_all (p.take s kept.packet).next more

  -- each text finds room at its turn
  abbrev pub HasRoom : S → List Kept → Type 0
  HasRoom s [] = ⊤
  HasRoom s (kept ∷ more) = ((p.take s kept.packet).full ≡ false) × HasRoom (p.take s kept.packet).next more

  -- what is kept once this many of the oldest packets have left the outbox
  abbrev pub sent_all : ℕ → S → S
  sent_all zero s = s
  sent_all (suc n) s = sent_all n (p.sent s)

  -- where a sync stands, and its two boxes
  pub record StandsAt (m : Meeting S) (s : S) (wait : Wait) (own peers : Box) : Type 0 where
    pub state : m.course.state ≡ s
    pub waits : m.course.wait ≡ wait
    pub own_box : box_of p.own m.boxes ≡ Some own
    pub peers_box : box_of p.peers m.boxes ≡ Some peers

  -- after some replies it stands there
  abbrev pub Comes : Meeting S → S → Wait → Box → Box → Type 0
  Comes m s wait own peers = (n : ℕ) × StandsAt (meet_times p n m) s wait own peers

  -- The relay has both boxes; where the own one has a guard, it has the sync's key, and counters
  -- left. Fewer packets stand in the own one than a sync acknowledges, and each text finds room at
  -- its turn. Taking a packet leaves the outbox.
  pub record CanTransfer (s : S) (boxes : List Box) (own peers : Box) : Type 0 where
    pub apart : bytes_eq p.own p.peers ≡ false
    pub own_box : box_of p.own boxes ≡ Some own
    pub peers_box : box_of p.peers boxes ≡ Some peers
    pub own_guard : IsGuardedFor p.keys Owner own.guard
    pub own_counters : HasCounters Owner (2 * length own.packets + 1) own.guard
    pub distinct : HaveOtherNumbers own.packets
    pub few : length own.packets < ITEM_LIMIT
    pub room : HasRoom s own.packets
    pub drops : (t : S) → p.outbox (p.sent t) ≡ drop 1 (p.outbox t)
    pub keeps : (t : S) (packet : List ℕ) → p.outbox (p.take t packet).next ≡ p.outbox t

-- what is left of the own box: it has served a request for each packet, an acknowledgement for
-- each, and the last fetch
abbrev pub collected : Box → Box
collected own = counted Owner (2 * length own.packets + 1) (emptied own)

-- the peer's box with these packets
abbrev pub posted : Box → List (List ℕ) → Box
posted peers packets = counted Poster (length packets) (with_posts peers packets)

-- A sync takes all packets of its box in order, and leaves the box empty; then, where they fit, all
-- packets of its outbox stand in the peer's box after those that stood, and the outbox is empty.
-- What a guard has served it has counted.
pub record IsTransfer (S : Type 0) : Type 0 where
  pub collects : (p : Party S) (s : S) (boxes : List Box) (own peers : Box)
      → CanTransfer p s boxes own peers
      → Comes p (begins p s boxes) (taken_all p s own.packets) (waits_by (p.outbox s) End)
      (collected own) peers
  pub delivers : (p : Party S) (s : S) (boxes : List Box) (own peers : Box)
      → CanTransfer p s boxes own peers → HasRoomForAll p.keys (p.outbox s) peers
      → Comes p (begins p s boxes)
      (sent_all p (length (p.outbox s)) (taken_all p s own.packets)) (over (ended End))
      (collected own) (posted peers (p.outbox s))
  -- then no packet is left in the outbox
  pub outbox_leaves : (p : Party S) (s : S)
      → ((t : S) → p.outbox (p.sent t) ≡ drop 1 (p.outbox t))
      → p.outbox (sent_all p (length (p.outbox s)) s) ≡ []
