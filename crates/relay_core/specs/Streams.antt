-- What a relay replies to a stream, in whatever pieces it comes; and what of it concerns one box.
use Rattle.std.specs.Prelude.{◌≡◌, ℕ, zero, suc, ◌==◌, Bool, false, List, [], ◌∷◌, ◌++◌, map, drop, flat_map, Result, Ok, Err, if◌then◌else◌}
use Rattle.std.specs.Str.{bytes_eq}
use Rattle.relay_core.specs.declared.limits.TheConstants.{EXCHANGE_LIMIT}
use Rattle.relay_core.specs.Boxes.{Box, answers_read, box_of}
use Rattle.relay_core.specs.Alone.{replies_alone, box_after}
use Rattle.relay_wire.specs.Frames.{frames_of, framed}
use Rattle.relay_wire.specs.Replies.{Replied, reply_body}
use Rattle.relay_wire.specs.Requests.{Asked, read_request}

-- a frame that was answered: what it asks, and the reply
pub record Exchange : Type 0 where
  pub asked : Result Asked ℕ
  pub reply : Replied

-- frames that were answered, in order, and the boxes then
pub record Served : Type 0 where
  pub exchanges : List Exchange
  pub next : List Box

abbrev pub nothing_served : List Box → Served
nothing_served boxes = record { exchanges = []; next = boxes }

abbrev pub exchange_then : Exchange → Served → Served
exchange_then exchange served = record { exchanges = exchange ∷ served.exchanges; next = served.next }

-- these exchanges, and then more
abbrev pub prepend : List Exchange → Served → Served
prepend exchanges more = record { exchanges = exchanges ++ more.exchanges; next = more.next }

-- what a frame asks, and the reply
abbrev pub exchange_of : List Box → List ℕ → Exchange
exchange_of boxes frame = record { asked = read_request (drop 2 frame); reply = (answers_read boxes (read_request (drop 2 frame))).reply }

-- the boxes then
abbrev pub boxes_after : List Box → List ℕ → List Box
boxes_after boxes frame = (answers_read boxes (read_request (drop 2 frame))).next

-- after a frame of no lawful length nothing is answered
abbrev pub is_last : Result Asked ℕ → Bool
is_last (Err kind) = kind == 1
is_last (Ok asked) = false

-- frames answered in order, at most this many
abbrev pub served_within : ℕ → List Box → List (List ℕ) → Served
served_within zero boxes frames = nothing_served boxes
served_within (suc n) boxes [] = nothing_served boxes
served_within (suc n) boxes (frame ∷ frames) =
    let asked = read_request (drop 2 frame) in
    let a = answers_read boxes asked in
    let more = if is_last asked then nothing_served a.next else served_within n a.next frames in
    exchange_then (record { asked = asked; reply = a.reply }) more

-- the stream of one connection, answered
unfoldable pub served : List Box → List ℕ → Served
served boxes stream = served_within EXCHANGE_LIMIT boxes (frames_of stream)

-- the bytes of the replies
abbrev pub reply_frame : Exchange → List ℕ
reply_frame exchange = framed (reply_body exchange.reply)

abbrev pub reply_bytes : Served → List ℕ
reply_bytes served = flat_map reply_frame served.exchanges

-- ---- of one box

-- a request for the box that was answered, and the reply
pub record BoxExchange : Type 0 where
  pub asked : Asked
  pub reply : Replied

abbrev pub told_of : List ℕ → Replied → Result Asked ℕ → List BoxExchange
told_of name reply (Ok asked) =
    if bytes_eq asked.name name then record { asked = asked; reply = reply } ∷ [] else []
told_of name reply (Err kind) = []

-- the requests for the box of a name that were answered, in order
abbrev pub told : List ℕ → List Exchange → List BoxExchange
told name exchanges = flat_map (λ e. told_of name e.reply e.asked) exchanges

abbrev pub asks : List BoxExchange → List Asked
asks list = map (λ t. t.asked) list

abbrev pub replies : List BoxExchange → List Replied
replies list = map (λ t. t.reply) list

-- The box by itself gives the same replies to the requests for it, and is then what they alone make
-- of it: no other box counts, nor any other request, nor the order between them.
pub record IsIsolated (name : List ℕ) (boxes : List Box) (served : Served) : Type 0 where
  pub replied : replies (told name served.exchanges) ≡ replies_alone (box_of name boxes) (asks (told name served.exchanges))
  pub next : box_of name served.next ≡ box_after (box_of name boxes) (asks (told name served.exchanges))
