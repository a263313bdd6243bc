-- A connection that is served.
use Rattle.std.specs.Prelude.{◌≡◌, ◌-◌, ◌≤◌, ℕ, List, [], ◌∷◌, ◌++◌, length, take, drop, flat_map, Some, Result, Ok, Err, IfOk, OnOk}
use Rattle.std.specs.List.{AllByRecursion}
use Rattle.dr_disk.specs.declared.call.Call.{Call}
use Rattle.dr_disk.specs.State.{DiskState, Always}
use Rattle.dr_disk.specs.Spans.{IsQuiet, Span}
use Rattle.dr_ports.specs.Ports.{Rose}
use Rattle.dr_ports.specs.declared.pipe.Part.TheVariants.{Flow, Gate}
use Rattle.dr_ports.specs.Wires.{Port, Told, EndsAt}
pub use Rattle.relay_pipe.specs.Exchanging.{exchanged, Exchanges}
use Rattle.relay_wire.specs.declared.limits.TheConstants.{FRAME_LIMIT}
use Rattle.relay_wire.specs.Requests.{read_request}
use Rattle.relay_wire.specs.Replies.{reply_body}
use Rattle.relay_wire.specs.Frames.{IsFrame, IsPartial, framed, frames_of}
use Rattle.relay_core.specs.declared.limits.TheConstants.{EXCHANGE_LIMIT}
use Rattle.relay_core.specs.declared.answering.Answered.{Answered as AnsweredFrame}
use Rattle.relay_core.specs.Boxes.{Box, answers_read, box_of}
use Rattle.relay_core.specs.Streams.{Exchange, prepend, served, served_within, reply_frame, reply_bytes, is_last, IsIsolated, asks, told}
use Rattle.relay_core.specs.Alone.{box_after}
use Rattle.relay_server.specs.Durable.{CallsForChange, ServerNow, IsServerReady, LeavesBoxes, StandsForEitherBoxes}
use Rattle.relay_server.specs.Reading.{StandsForBoxes}
use Rattle.relay_server.specs.Places.{IsSameBehind}
use Rattle.relay_server.specs.declared.serving.Ended.{Ended}
use Rattle.relay_server.specs.declared.serving.Round.{Round}
use Rattle.relay_server.specs.declared.serving.Round.TheVariants.{AtEnd, Answered}
use Rattle.relay_server.specs.declared.serving.ServeFault.{ServeFault}
use Rattle.relay_server.specs.declared.serving.ServeFault.TheVariants.{Read, Write, Store}

-- ---- one round: a frame is pulled, answered, and its reply sent

-- no whole frame came
pub record Idle (got : List ℕ) (old new : List Box) (start now : Port) (dstart dnow : DiskState) : Type 0 where
  pub exchanges : Exchanges got [] start now
  pub partial : IsPartial got
  pub same : new ≡ old
  pub still : Span dstart dnow (λ c. ⊥)

-- a frame came, and this much was sent
pub record Came (frame put : List ℕ) (old new : List Box) (start now : Port) (dstart dnow : DiskState) : Type 0 where
  pub exchanges : Exchanges frame put start now
  pub whole : IsFrame frame
  pub next : new ≡ (answers_read old (read_request (drop 2 frame))).next
  pub during : Span dstart dnow (λ c. StandsForEitherBoxes old new c × IsSameBehind (length old) dstart c)

abbrev pub reply_to : List Box → List ℕ → List ℕ
reply_to boxes frame = framed (reply_body (answers_read boxes (read_request (drop 2 frame))).reply)

-- the reply to a frame stands at the beginning of a room, which held `before` and holds `after`
pub record HasReply {E : Type 0} (boxes : List Box) (frame before after : List ℕ)
    (result : Result AnsweredFrame E) : Type 0 where
  pub last : IfOk result (λ a. a.last ≡ is_last (read_request (drop 2 frame)))
  pub len : IfOk result (λ a. a.len ≤ length before)
  pub size : length after ≡ length before
  pub reply : IfOk result (λ a. take a.len after ≡ reply_to boxes frame)

-- A frame can be answered: each image is at rest for the boxes, and there is room for any reply.
pub record CanAnswer (server : ServerNow) (disk : DiskState)
    (out : List ℕ) : Type 0 where
  pub ready : IsServerReady server disk
  pub room : FRAME_LIMIT ≤ length out

-- A frame was answered: the boxes are those after it, and so is the disk without an error. Then the
-- reply stands in the room, which held `before` and holds `after`.
pub record AnswersFrame (frame : List ℕ) (old new : ServerNow)
    (start now : DiskState) (before after : List ℕ)
    (result : Result AnsweredFrame Call) : Type 0 where
  pub next : new.boxes ≡ (answers_read old.boxes (read_request (drop 2 frame))).next
  pub leaves : LeavesBoxes old new start now result
  pub calls : CallsForChange (answers_read old.boxes (read_request (drop 2 frame))).changed old new start now result
  pub reply : HasReply old.boxes frame before after result

-- No count of faults rose where it passed. Else the pipe's count of its flow may have risen, and
-- that of its gate never.
pub record LeavesCounts {D P T E : Type 0} (state : D → DiskState) (port : P → Port)
    (start now : D) (from door : P) (result : Result T E) : Type 0 where
  pub later : (port from).faults Flow ≤ (port door).faults Flow
  pub flow : OnOk result ((port door).faults Flow ≡ (port from).faults Flow)
  pub gate : (port door).faults Gate ≡ (port from).faults Gate
  pub quiet : OnOk result (IsQuiet (state start) (state now))

abbrev pub Rounds : ServerNow → ServerNow → Port → Port → DiskState → DiskState → Result Round ServeFault → Type 0
Rounds old new start now dstart dnow (Ok AtEnd) = (got : List ℕ) × Idle got old.boxes new.boxes start now dstart dnow × EndsAt now × IsServerReady new dnow
Rounds old new start now dstart dnow (Ok (Answered last)) =
    (frame : List ℕ) × Came frame (reply_to old.boxes frame) old.boxes new.boxes start now dstart dnow × (last ≡ is_last (read_request (drop 2 frame))) × IsServerReady new dnow
Rounds old new start now dstart dnow (Err Read) = (got : List ℕ) × Idle got old.boxes new.boxes start now dstart dnow × Rose (start.faults Flow) (now.faults Flow) × IsServerReady new dnow × IsQuiet dstart dnow
Rounds old new start now dstart dnow (Err Write) =
    (frame : List ℕ) × (put : List ℕ) × (rest : List ℕ) × Came frame put old.boxes new.boxes start now dstart dnow × (reply_to old.boxes frame ≡ put ++ rest)
    × Rose (start.faults Flow) (now.faults Flow) × IsServerReady new dnow × IsQuiet dstart dnow
Rounds old new start now dstart dnow (Err (Store call)) = (frame : List ℕ) × Came frame [] old.boxes new.boxes start now dstart dnow × Rose (dstart.faults call) (dnow.faults call)
    × Always (StandsForEitherBoxes old.boxes new.boxes) dnow

-- ---- a whole connection

-- bytes that stand for the boxes after a beginning of the frames, so each box for what its own requests in that beginning made of it
pub record ReachedIn (most : ℕ) (boxes : List Box) (frames : List (List ℕ)) (c : List ℕ) : Type 0 where
  pub front : List (List ℕ)
  pub back : List (List ℕ)
  pub split : frames ≡ front ++ back
  pub stands : StandsForBoxes (served_within most boxes front).next c

abbrev pub Reached : List Box → List ℕ → List ℕ → Type 0
Reached boxes got = ReachedIn EXCHANGE_LIMIT boxes (frames_of got)

-- Bytes that stand for the boxes after all frames, or for those before the last one.
pub record LastOrBefore (boxes next : List Box) (got : List ℕ) (disk : DiskState) : Type 0 where
  pub front : List (List ℕ)
  pub frame : List ℕ
  pub split : frames_of got ≡ front ++ frame ∷ []
  pub each : Always (StandsForEitherBoxes (served_within EXCHANGE_LIMIT boxes front).next next) disk

-- Bytes that stand, box by box, for what the box's own requests in a beginning of the frames made of it.
pub record StandsForPart (boxes : List Box) (got c : List ℕ) : Type 0 where
  pub front : List (List ℕ)
  pub back : List (List ℕ)
  pub split : frames_of got ≡ front ++ back
  pub stands : StandsForBoxes (served_within EXCHANGE_LIMIT boxes front).next c
  pub alone : (name : List ℕ) → box_of name (served_within EXCHANGE_LIMIT boxes front).next ≡ box_after (box_of name boxes) (asks (told name (served_within EXCHANGE_LIMIT boxes front).exchanges))

-- nothing more would be answered, whatever is left
abbrev pub IsAll : List Box → List ℕ → Port → Type 0
IsAll boxes got now = (t : Told) (more : List ℕ) → now.told ≡ Some t → t.now.gives t.now.sent ≡ t.now.received ++ more → served boxes (got ++ more) ≡ served boxes got

pub record AnswersStream (boxes next : List Box) (got put : List ℕ) (start now : Port) : Type 0 where
  pub exchanges : Exchanges got put start now
  pub next_is : next ≡ (served boxes got).next

abbrev pub Serves : ServerNow → ServerNow → Port → Port → DiskState → DiskState → List ℕ → Result Ended ServeFault → Type 0
Serves old new start now dstart dnow got (Ok ended) =
    AnswersStream old.boxes new.boxes got (reply_bytes (served old.boxes got)) start now × IsServerReady new dnow × IsQuiet dstart dnow × (ended.answered ≡ length (served old.boxes got).exchanges) × IsAll old.boxes got now
Serves old new start now dstart dnow got (Err Read) =
    AnswersStream old.boxes new.boxes got (reply_bytes (served old.boxes got)) start now × IsServerReady new dnow × IsQuiet dstart dnow × Rose (start.faults Flow) (now.faults Flow)
Serves old new start now dstart dnow got (Err Write) =
    (put : List ℕ) × (rest : List ℕ) × AnswersStream old.boxes new.boxes got put start now × (reply_bytes (served old.boxes got) ≡ put ++ rest) × IsServerReady new dnow × IsQuiet dstart dnow × Rose (start.faults Flow) (now.faults Flow)
Serves old new start now dstart dnow got (Err (Store call)) =
    (put : List ℕ) × (last : Exchange) × AnswersStream old.boxes new.boxes got put start now × (reply_bytes (served old.boxes got) ≡ put ++ reply_frame last) × Rose (dstart.faults call) (dnow.faults call)
    × LastOrBefore old.boxes new.boxes got dnow

-- all that one call of `serve` did
pub record IsServed (old new : ServerNow) (start now : Port) (dstart dnow : DiskState) (result : Result Ended ServeFault) : Type 0 where
  pub got : List ℕ
  pub during : Span dstart dnow (λ c. Reached old.boxes got c × IsSameBehind (length old.boxes) dstart c)
  pub count : length new.boxes ≡ length old.boxes
  pub alone : (name : List ℕ) → IsIsolated name old.boxes (served old.boxes got)
  pub serves : Serves old new start now dstart dnow got result

-- ---- between rounds

pub record ServedSoFar (most : ℕ) (old : ServerNow) (boxes : List Box) (start now : Port) (dstart dnow : DiskState) (n : ℕ) : Type 0 where
  pub frames : List (List ℕ)
  pub each : AllByRecursion IsFrame frames
  pub exs : List Exchange
  pub exchanges : Exchanges (flat_map (λ frame. frame) frames) (flat_map reply_frame exs) start now
  pub ahead : (fs : List (List ℕ)) → served_within most old.boxes (frames ++ fs) ≡ prepend exs (served_within (most - n) boxes fs)
  pub count : length exs ≡ n
  pub later : start.faults Flow ≤ now.faults Flow
  pub during : Span dstart dnow (λ c. ReachedIn most old.boxes frames c × IsSameBehind (length old.boxes) dstart c)
  pub boxes_count : length boxes ≡ length old.boxes
