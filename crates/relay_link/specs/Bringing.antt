-- What a link has brought since its connection began.
use Rattle.std.specs.Prelude.{◌≡◌, ◌⊎◌, ◌<◌, ◌≤◌, ℕ, List, ◌++◌, length, take, flat_map}
use Rattle.relay_core.specs.Boxes.{Box}
use Rattle.dr_ports.specs.Wires.{IsAtEnd}
use Rattle.relay_core.specs.Streams.{served, reply_bytes, reply_frame}
use Rattle.relay_link.specs.Connections.{LinkConnection, boxes_now, connection_wire}
use Rattle.relay_link.specs.declared.limits.TheConstants.{SENT_LIMIT}

-- These bytes were sent, and those received are a beginning of the first of the replies to them, this many. The boxes are those
-- after them; at the end all replies were received. A call has failed only where a reply was lost, or where no more bytes are taken.
pub record IsBrought (boxes : List Box) (kept : ℕ) (got put : List ℕ) (now : LinkConnection) : Type 0 where
  pub sent : now.sent ≡ put
  pub more : List ℕ
  pub came : got ++ more ≡ flat_map reply_frame (take kept (served boxes put).exchanges)
  pub boxes_are : boxes_now now ≡ (served boxes put).next
  pub ends : IsAtEnd (connection_wire now) → got ≡ reply_bytes (served boxes put)
  pub failed : 0 < now.faults → (kept < length (served boxes put).exchanges) ⊎ (SENT_LIMIT ≤ length put)
