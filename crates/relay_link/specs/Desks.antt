-- A relay at its desk: it answers the frames of one connection, and the first replies come.
use Rattle.std.specs.Prelude.{◌≡◌, ℕ, zero, suc, ◌+◌, nat_lt, List, [], ◌++◌, length, drop, if◌then◌else◌}
use Rattle.relay_core.specs.Boxes.{Box}
use Rattle.relay_core.specs.Streams.{boxes_after, exchange_of, is_last, reply_frame}
use Rattle.relay_core.specs.declared.limits.TheConstants.{EXCHANGE_LIMIT}
use Rattle.relay_wire.specs.Frames.{Held, IsFrame, IsPartial}
use Rattle.relay_wire.specs.Requests.{read_request}

-- the boxes, the replies that come in bytes, how many come at most, how many frames were answered, and how many more may be
pub record DeskNow : Type 0 where
  pub boxes : List Box
  pub replies : List ℕ
  pub kept : ℕ
  pub answered : ℕ
  pub left : ℕ

-- before the first frame
abbrev pub fresh_desk : ℕ → List Box → DeskNow
fresh_desk kept boxes = record { boxes = boxes; replies = []; kept = kept; answered = 0; left = EXCHANGE_LIMIT }

-- the frame is answered; its reply comes, if it is one of the first
abbrev pub answered_frame : DeskNow → ℕ → List ℕ → DeskNow
answered_frame d more frame = record {
  boxes = boxes_after d.boxes frame;
  replies = if nat_lt d.answered d.kept then d.replies ++ reply_frame (exchange_of d.boxes frame) else d.replies;
  kept = d.kept;
  answered = d.answered + 1;
  left = if is_last (read_request (drop 2 frame)) then 0 else more;
}

-- after the last frame none is answered
abbrev pub frame_left : DeskNow → ℕ → List ℕ → DeskNow
frame_left d zero frame = d
frame_left d (suc more) frame = answered_frame d more frame

abbrev pub after_frame : DeskNow → List ℕ → DeskNow
after_frame d frame = frame_left d d.left frame

-- where less than a frame stands nothing is done; a whole one is given, and answered
pub data HasAnswered (old new : DeskNow) (reader left : Held) : Type 0 where
  waits : IsPartial reader.bytes → left ≡ reader → new ≡ old → HasAnswered old new reader left
  answers : IsFrame reader.bytes → left.bytes ≡ [] → left.place ≡ reader.place + length reader.bytes
      → new ≡ after_frame old reader.bytes → HasAnswered old new reader left
