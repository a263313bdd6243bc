-- What a link to a relay tells.
use Rattle.std.specs.Prelude.{◌⊎◌, ◌<◌, ◌≤◌, ℕ, ◌-◌, min, List, [], length, take, drop, flat_map, Option, Some, None}
use Rattle.std.proofs.Common.{sym}
use Rattle.std.proofs.lemmas.List.{take-append-drop}
use Rattle.dr_ports.specs.MemoryWires.{faults_of, nothing_comes, plain}
use Rattle.dr_ports.specs.Wires.{IsAhead, Port, Wire, untold_fate}
use Rattle.relay_core.specs.Boxes.{Box}
use Rattle.relay_core.specs.Streams.{Exchange, served, reply_bytes, reply_frame}
use Rattle.relay_link.specs.declared.limits.TheConstants.{REPLY_LIMIT, SENT_LIMIT}

-- A connection: the relay's boxes when it began, how many replies come on it, what was sent, how many bytes of the replies were
-- received, and how often a call failed.
pub record LinkConnection : Type 0 where
  pub start : List Box
  pub kept : ℕ
  pub sent : List ℕ
  pub at : ℕ
  pub faults : ℕ

-- before the first request
abbrev pub fresh_connection : ℕ → List Box → LinkConnection
fresh_connection kept boxes = record { start = boxes; kept = kept; sent = []; at = 0; faults = 0 }

-- the frames that were answered, with their replies
abbrev pub exchanges_of : LinkConnection → List Exchange
exchanges_of c = (served c.start c.sent).exchanges

-- the boxes after them
abbrev pub boxes_now : LinkConnection → List Box
boxes_now c = (served c.start c.sent).next

-- the replies that come, in bytes; those after them are lost
abbrev pub replies_coming : LinkConnection → List ℕ
replies_coming c = flat_map reply_frame (take c.kept (exchanges_of c))

-- how many replies come: those before the lost one
abbrev pub kept_before : Option ℕ → ℕ
kept_before None = REPLY_LIMIT
kept_before (Some lost) = min (lost - 1) REPLY_LIMIT

-- ---- as a pipe

abbrev pub connection_wire : LinkConnection → Wire
connection_wire c = record {
  gives = λ sent. reply_bytes (served c.start sent);
  received = take c.at (reply_bytes (served c.start c.sent));
  sent = c.sent;
  fate = untold_fate;
}

abbrev pub connection_port : LinkConnection → Port
connection_port c = record {
  told = Some (record { now = connection_wire c; before = []; coming = nothing_comes; line = plain });
  faults = faults_of c.faults 0;
}

-- what stands behind the link: the boxes, and how many replies come
pub record Behind : Type 0 where
  pub boxes : List Box
  pub kept : ℕ

abbrev pub behind_of : LinkConnection → List ℕ → Behind
behind_of c sent = record { boxes = (served c.start sent).next; kept = c.kept }

pub connection_is_ahead : (c : LinkConnection) → IsAhead (connection_wire c)
connection_is_ahead c = (drop c.at (reply_bytes (served c.start c.sent)), sym (take-append-drop c.at (reply_bytes (served c.start c.sent))))

-- ---- where it fails

-- a reply was lost
abbrev pub HasLost : LinkConnection → Type 0
HasLost c = c.kept < length (exchanges_of c)

-- Only replies that come were received. A call has failed only where a reply was lost, or where no more bytes are taken.
pub record IsLawfulConnection (c : LinkConnection) : Type 0 where
  pub received : c.at ≤ length (replies_coming c)
  pub few : c.kept ≤ REPLY_LIMIT
  pub failed : 0 < c.faults → HasLost c ⊎ (SENT_LIMIT ≤ length c.sent)
