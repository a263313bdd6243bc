-- A sender's sync, and then its peer's: the texts that waited go over.
use Rattle.std.specs.Prelude.{List, length, map, ◌+◌, ◌*◌, ◌++◌, ◌≡◌, ℕ}
use Rattle.boxes.specs.Posts.{Post}
use Rattle.dr_base.specs.Position.{peer_of}
use Rattle.dr_base.specs.declared.position.Position.{Position}
use Rattle.dr_base.specs.declared.position.Side.{Side}
use Rattle.dr_model.specs.Machines.Worlds.{World}
use Rattle.kem_laws.specs.Mechanism.{Mechanism}
use Rattle.relay_guard.specs.declared.guard.Role.TheVariants.{Owner}
use Rattle.relay_core.specs.Boxes.{Box}
use Rattle.relay_core.specs.Streams.{served}
use Rattle.relay_wire.specs.Replies.{Replied}
use Rattle.session_model.specs.Clients.{Client}
use Rattle.sync_model.specs.Carried.{IsCarried, request_bytes}
use Rattle.sync_model.specs.Courses.{course_of}
use Rattle.sync_model.specs.Transfers.{HasCounters, HasRoomForAll, HasRoom, IsGuardedFor}
use Rattle.client.specs.Syncing.Arrivals.{AreExpected, HasOpened, HoldsPackets, OpensArrived}
use Rattle.client.specs.Syncing.InWorlds.{IsKeptIn}
use Rattle.client.specs.Syncing.Parties.{client_party}
use Rattle.client.specs.Syncing.Transfers.{HasBoxes, IsPast, Transfers}

-- a course that has come to its end, by the replies of a relay with these boxes
pub record IsCourseServed (k : Mechanism) (prefix : List ℕ) (first : Client) (boxes : List Box) (replies : List Replied) : Type 0 where
  pub carried : IsCarried (client_party k prefix first) first boxes replies
  pub past : IsPast (client_party k prefix first) first replies

-- the boxes once the requests of the course were answered
abbrev pub boxes_left : Mechanism → List ℕ → Client → List Box → List Replied → List Box
boxes_left k prefix first boxes replies =
    (served boxes (request_bytes (course_of (client_party k prefix first) first replies).requests)).next

-- the positions of the packets that wait
abbrev pub positions_of : Client → List Position
positions_of kept = map (λ (item : Post). item.position) kept.outbox

-- Two sides of one conversation: the sender syncs by a relay's replies, and then the receiver by
-- those of the same relay. The peer's box held packets of these positions, the packets that wait
-- fit into it, each text of the sender's own box finds room at its turn, and the receiver is to
-- expect those positions, and then the sender's, at their turns. Where a box has a guard, the sender
-- has its keys, and of its own box the receiver has; and counters are left. Then the receiver has
-- opened them: in order, each once.
abbrev pub GoesOver : Mechanism → Type 0
GoesOver k = (prefix again : List ℕ) (w v : World) (side : Side) (sender receiver : Client)
    (boxes : List Box) (own peers : Box) (replies others : List Replied) (ps : List Position)
    → IsKeptIn k side sender w → IsKeptIn k (peer_of side) receiver v
    → v.conversation ≡ w.conversation
    → Transfers (client_party k prefix sender) sender replies
    → OpensArrived k again receiver others
    → HasBoxes (client_party k prefix sender) boxes own peers
    → IsGuardedFor (client_party k again receiver).keys Owner peers.guard
    → HasCounters Owner (2 * (length peers.packets + length sender.outbox) + 1) peers.guard
    → HasRoom (client_party k prefix sender) sender own.packets
    → HasRoomForAll (client_party k prefix sender).keys
    (map (λ (item : Post). item.packet) sender.outbox) peers
    → IsCourseServed k prefix sender boxes replies
    → IsCourseServed k again receiver (boxes_left k prefix sender boxes replies) others
    → HoldsPackets k v peers ps → AreExpected k v (peer_of side) (ps ++ positions_of sender)
    → HasOpened k v (peer_of side) (ps ++ positions_of sender)
    (course_of (client_party k again receiver) receiver others).state
