-- A connection frame by frame: what stands on the disk once each reply is sent, and what a crash
-- may leave until the next one is. The disks and pipes between two frames are values of the types
-- that the caller chose: what is claimed for all such types is claimed for those whose values are
-- just the states that a disk and a pipe went through.
use Rattle.std.specs.Prelude.{◌≡◌, ◌⊎◌, ℕ, Bool, true, false, List, [], ◌∷◌, ◌++◌, filter, Option, Some, None, is_some, Result}
use Rattle.dr_disk.specs.State.{DiskState}
use Rattle.dr_disk.specs.Spans.{Span}
use Rattle.dr_ports.specs.Wires.{Port}
use Rattle.relay_pipe.specs.Exchanging.{Exchanges}
use Rattle.relay_wire.specs.Frames.{frames_of}
use Rattle.relay_wire.specs.Replies.{Replied, stored, acked, denied}
use Rattle.relay_core.specs.declared.limits.TheConstants.{EXCHANGE_LIMIT}
use Rattle.relay_core.specs.Alone.{box_after}
use Rattle.relay_core.specs.Boxes.{Box, box_of}
use Rattle.relay_core.specs.Streams.{Served, BoxExchange, asks, served_within, told}
use Rattle.slot_store.specs.Store.{SlotStore}
use Rattle.relay_server.specs.Durable.{IsServerReady, ServerNow}
use Rattle.relay_server.specs.Reading.{StandsForBoxes}
use Rattle.relay_server.specs.Serving.{Came, IsServed, LeavesCounts, reply_to}
use Rattle.relay_server.specs.declared.serving.Ended.{Ended}
use Rattle.relay_server.specs.declared.serving.ServeFault.{ServeFault}

-- each image is at rest for these boxes
pub record IsServerAtRest (boxes : List Box) (disk : DiskState) : Type 0 where
  pub stores : List SlotStore
  pub ready : IsServerReady (record { boxes = boxes; stores = stores }) disk

-- these frames, answered by these boxes
abbrev pub after_frames : List Box → List (List ℕ) → Served
after_frames boxes frames = served_within EXCHANGE_LIMIT boxes frames

-- These frames came, and before the next one came the reply to each was sent whole, and the disk at rest for the boxes
-- after it. While one is answered each image stands for the boxes before it, or for those after it.
pub data AreAnswered {X Y : Type 0} (state : X → DiskState) (port : Y → Port) (boxes : List Box)
    (start : X) (from : Y) : List (List ℕ) → List Box → X → Y → Type 0 where
  none_yet : IsServerAtRest boxes (state start) → AreAnswered state port boxes start from [] boxes start from
  one_more : (frames : List (List ℕ)) (frame : List ℕ) (before after : List Box) (disk next : X) (pipe later : Y)
      → AreAnswered state port boxes start from frames before disk pipe
      → Came frame (reply_to before frame) before after (port pipe) (port later) (state disk) (state next)
      → after ≡ (after_frames boxes (frames ++ frame ∷ [])).next → IsServerAtRest after (state next)
      → AreAnswered state port boxes start from (frames ++ frame ∷ []) after next later

-- A whole connection, by the frames whose replies were sent whole, and what followed. That is at most a part of a frame,
-- and nothing new could be left on the disk; or one frame more. Of its reply nothing was sent, or a part once the disk was
-- at rest for the boxes after it.
pub data IsInOrder {X Y : Type 0} (state : X → DiskState) (port : Y → Port) (boxes : List Box)
    (got : List ℕ) (start now : X) (from door : Y) : Type 0 where
  ended_behind : (behind : List Box) (disk : X) (pipe : Y) (part : List ℕ)
      → AreAnswered state port boxes start from (frames_of got) behind disk pipe
      → Exchanges part [] (port pipe) (port door)
      → Span (state disk) (state now) (λ c. ⊥) → IsServerAtRest behind (state now)
      → IsInOrder state port boxes got start now from door
  broke_off_in : (frames : List (List ℕ)) (frame put rest : List ℕ) (before after : List Box) (disk : X) (pipe : Y)
      → frames_of got ≡ frames ++ frame ∷ []
      → AreAnswered state port boxes start from frames before disk pipe
      → Came frame put before after (port pipe) (port door) (state disk) (state now)
      → after ≡ (after_frames boxes (frames ++ frame ∷ [])).next → reply_to before frame ≡ put ++ rest
      → (put ≡ []) ⊎ IsServerAtRest after (state now)
      → IsInOrder state port boxes got start now from door

-- one call of `serve`, as a whole and frame by frame, and what it counts
pub record IsServedInOrder {X Y : Type 0} (state : X → DiskState) (port : Y → Port)
    (old new : ServerNow) (start now : X) (from door : Y) (result : Result Ended ServeFault) : Type 0 where
  pub served : IsServed old new (port from) (port door) (state start) (state now) result
  pub in_order : IsInOrder state port old.boxes served.got start now from door
  pub counts : LeavesCounts state port start now from door result

-- ---- a moment

-- what a crash may have left at some moment from a on until b
abbrev pub WasLeft : DiskState → DiskState → List ℕ → Type 0
WasLeft a b c = b.since a.moment c ⊎ b.image c

-- These bytes may have been left at a moment at which the replies to these frames were sent whole, and no other: at rest,
-- or while the next frame was answered and its reply sent.
pub data IsMoment {X Y : Type 0} (state : X → DiskState) (port : Y → Port) (boxes : List Box)
    (start : X) (from : Y) (frames : List (List ℕ)) (c : List ℕ) : Type 0 where
  between : (behind : List Box) (disk : X) (pipe : Y)
      → AreAnswered state port boxes start from frames behind disk pipe → (state disk).image c
      → IsMoment state port boxes start from frames c
  within : (frame put : List ℕ) (before after : List Box) (disk next : X) (pipe later : Y)
      → AreAnswered state port boxes start from frames before disk pipe
      → Came frame put before after (port pipe) (port later) (state disk) (state next)
      → after ≡ (after_frames boxes (frames ++ frame ∷ [])).next → WasLeft (state disk) (state next) c
      → IsMoment state port boxes start from frames c

-- a packet was kept, or dropped; or a guarded box served a request, and kept its counter
abbrev pub is_accepting : Bool → Replied → Bool
is_accepting guarded (stored number) = true
is_accepting guarded acked = true
is_accepting guarded (denied rule last) = false
is_accepting guarded _ = guarded

-- the requests that were accepted
abbrev pub accepted : Bool → List BoxExchange → List BoxExchange
accepted guarded list = filter (λ t. is_accepting guarded t.reply) list

abbrev pub is_guarded : Option Box → Bool
is_guarded None = false
is_guarded (Some box) = is_some box.guard

-- the box of a name after its own accepted requests among these
abbrev pub after_accepted : List ℕ → List Box → List BoxExchange → Option Box
after_accepted name boxes list =
    box_after (box_of name boxes) (asks (accepted (is_guarded (box_of name boxes)) list))

-- Bytes that stand for the boxes after these frames, or after one more: each is what its own
-- accepted requests made of it.
pub record StandsForSent (boxes : List Box) (frames : List (List ℕ)) (c : List ℕ) : Type 0 where
  pub front : List (List ℕ)
  pub reach : (front ≡ frames) ⊎ ((frame : List ℕ) × (front ≡ frames ++ frame ∷ []))
  pub stands : StandsForBoxes (after_frames boxes front).next c
  pub alone : (name : List ℕ) → box_of name (after_frames boxes front).next
      ≡ after_accepted name boxes (told name (after_frames boxes front).exchanges)
