-- The boxes of a relay, and what they reply.
use Rattle.std.specs.Prelude.{◌≡◌, ◌<◌, take, slice_get, ℕ, ◌+◌, ◌-◌, ◌^◌, ◌==◌, ◌||◌, not, Bool, true, false, nat_le, List, [], ◌∷◌, ◌++◌, length, filter, Option, Some, None, option_map, Result, Ok, Err, if◌then◌else◌}
use Rattle.std.specs.List.{list_any}
use Rattle.std.specs.Str.{bytes_eq}
use Rattle.relay_core.specs.declared.limits.TheConstants.{BOX_LIMIT}
use Rattle.relay_core.specs.declared.spec.BoxKeys.{BoxKeys}
use Rattle.relay_core.specs.declared.spec.BoxSpec.{BoxSpec}
use Rattle.relay_guard.specs.Guards.{judged, new_guard}
use Rattle.relay_guard.specs.declared.guard.Denied.{Denied}
use Rattle.relay_guard.specs.declared.guard.Guard.{Guard}
use Rattle.relay_guard.specs.declared.guard.Role.{Role}
use Rattle.relay_guard.specs.declared.guard.Role.TheVariants.{Owner, Poster}
use Rattle.relay_wire.specs.Requests.{Asking, posts, fetches, acks, Asked, plain_body}
use Rattle.relay_wire.specs.Replies.{Replied, stored, item, empty, acked, box_full, unknown, absent, bad, denied}

-- a packet that a box keeps, under its number
pub record Kept : Type 0 where
  pub number : ℕ
  pub packet : List ℕ

-- a box: its name, the last number that it gave (0 before the first), the packets that stand, the
-- oldest first, and its guard, which says whose requests it serves: without one it serves all
pub record Box : Type 0 where
  pub name : List ℕ
  pub last : ℕ
  pub packets : List Kept
  pub guard : Option Guard

-- ---- what a box is made by

abbrev pub guard_of : BoxKeys → Guard
guard_of keys = new_guard keys.owner keys.poster

-- the guard with these keys, where there are some
abbrev pub guard_by : Option BoxKeys → Option Guard
guard_by keys = option_map guard_of keys

-- a box that nothing was asked of
abbrev pub empty_box : BoxSpec → Box
empty_box spec = record { name = spec.name; last = 0; packets = []; guard = guard_by spec.keys }

abbrev pub keys_of : Guard → BoxKeys
keys_of guard = record { owner = guard.owner; poster = guard.poster }

-- the keys of its guard, where there is one
abbrev pub keys_by : Option Guard → Option BoxKeys
keys_by guard = option_map keys_of guard

-- what a box was made by
abbrev pub spec_of : Box → BoxSpec
spec_of box = record { name = box.name; keys = keys_by box.guard }

-- ---- one box

-- what a box replies, what it is then, and whether that is another
pub record Answer : Type 0 where
  pub reply : Replied
  pub next : Box
  pub changed : Bool

abbrev pub stays : Replied → Box → Answer
stays reply box = record { reply = reply; next = box; changed = false }

abbrev pub becomes : Replied → Box → Answer
becomes reply box = record { reply = reply; next = box; changed = true }

-- a box keeps no further packet where BOX_LIMIT stand, or where no number is left
abbrev pub is_full : Box → Bool
is_full box = nat_le BOX_LIMIT (length box.packets) || box.last == 2 ^ 64 - 1

-- the box with one packet more, under the next number
abbrev pub with_packet : Box → List ℕ → Box
with_packet box packet = record box {
  last = box.last + 1;
  packets = box.packets ++ record { number = box.last + 1; packet = packet } ∷ [];
}

abbrev pub has_number : ℕ → List Kept → Bool
has_number number packets = list_any (λ kept. kept.number == number) packets

-- the box without the packet of a number
abbrev pub without_number : Box → ℕ → Box
without_number box number =
    record box { packets = filter (λ kept. not (kept.number == number)) box.packets }

abbrev pub oldest : List Kept → Replied
oldest [] = empty
oldest (kept ∷ more) = item kept.number kept.packet

-- a post keeps the packet, a fetch shows the oldest one, an acknowledgement drops the one of its number
unfoldable pub answer_of : Box → Asking → Answer
answer_of box (posts packet) =
    if is_full box then stays box_full box
    else becomes (stored (box.last + 1)) (with_packet box packet)
answer_of box fetches = stays (oldest box.packets) box
answer_of box (acks number) =
    if has_number number box.packets then becomes acked (without_number box number)
    else stays (absent number) box

-- ---- behind a guard

-- a post is tagged under the poster's key, all else under the owner's
abbrev pub role_of : Asking → Role
role_of (posts packet) = Poster
role_of fetches = Owner
role_of (acks number) = Owner

-- what a guard says of a request: its tag covers the request as it is without the token
abbrev pub judged_in : Guard → Asked → Result Guard Denied
judged_in guard asked =
    judged guard (role_of asked.ask) asked.token (plain_body asked.name asked.ask)

-- the guard then, where it lets a request through
abbrev pub guard_then : Result Guard Denied → Result (Option Guard) Denied
guard_then (Ok next) = Ok (Some next)
guard_then (Err d) = Err d

abbrev pub passed_by : Option Guard → Asked → Result (Option Guard) Denied
passed_by None asked = Ok None
passed_by (Some guard) asked = guard_then (judged_in guard asked)

-- A request that is served changes the box whatever the reply: its counter is kept. One that is
-- denied leaves the box.
abbrev pub by_verdict : Box → Answer → Result Guard Denied → Answer
by_verdict box made (Ok next) = becomes made.reply (record made.next { guard = Some next })
by_verdict box made (Err d) = stays (denied d.rule d.last) box

abbrev pub answer_by : Box → Asked → Option Guard → Answer
answer_by box asked None = answer_of box asked.ask
answer_by box asked (Some guard) = by_verdict box (answer_of box asked.ask) (judged_in guard asked)

-- what a box answers to a request: without a guard it looks at no token
unfoldable pub answer_in : Box → Asked → Answer
answer_in box asked = answer_by box asked box.guard

-- ---- all boxes

abbrev pub is_named : List ℕ → Box → Bool
is_named name box = bytes_eq box.name name

-- what the relay replies, what its boxes are then, and the place of the one that is another
pub record Answers : Type 0 where
  pub reply : Replied
  pub next : List Box
  pub changed : Option ℕ

abbrev pub of_first : Answer → List Box → Answers
of_first a boxes = record {
  reply = a.reply;
  next = a.next ∷ boxes;
  changed = if a.changed then Some 0 else None;
}

abbrev pub after_box : Box → Answers → Answers
after_box box a = record {
  reply = a.reply;
  next = box ∷ a.next;
  changed = option_map (λ k. k + 1) a.changed;
}

-- the first box of the name answers; where none has it, the name is unknown
unfoldable pub answers_of : List Box → Asked → Answers
answers_of [] asked = record { reply = unknown; next = []; changed = None }
answers_of (box ∷ boxes) asked =
    if is_named asked.name box then of_first (answer_in box asked) boxes
    else after_box box (answers_of boxes asked)

-- a frame that is no request is answered by the kind of what is wrong with it
abbrev pub answers_read : List Box → Result Asked ℕ → Answers
answers_read boxes (Ok asked) = answers_of boxes asked
answers_read boxes (Err kind) = record { reply = bad kind; next = boxes; changed = None }

-- the box of a name
abbrev pub box_of : List ℕ → List Box → Option Box
box_of name [] = None
box_of name (box ∷ boxes) = if is_named name box then Some box else box_of name boxes

-- ---- places

-- the place of the first box of a name, or nothing where no box has it
abbrev pub IsPlaced : List ℕ → List Box → Option ℕ → Type 0
IsPlaced name boxes None = list_any (is_named name) boxes ≡ false
IsPlaced name boxes (Some k) =
    (k < length boxes) × (list_any (is_named name) (take k boxes) ≡ false)
    × ((box : Box) → slice_get boxes k ≡ Some box → is_named name box ≡ true)
