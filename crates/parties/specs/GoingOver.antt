-- Two sides that sync over one relay in memory, the sender first: what waits at the one goes over to the other.
use Rattle.std.specs.Prelude.{List, length, map, ◌*◌, ◌+◌, ◌++◌, ◌≡◌, ℕ}
use Rattle.boxes.specs.Posts.{Post}
use Rattle.dr_base.specs.Position.{peer_of}
use Rattle.dr_base.specs.declared.position.Position.{Position}
use Rattle.dr_base.specs.declared.position.Side.{Side}
use Rattle.dr_model.specs.Machines.Worlds.{World}
use Rattle.kem_laws.specs.Mechanism.{Mechanism}
use Rattle.relay_guard.specs.declared.guard.Role.TheVariants.{Owner}
use Rattle.relay_core.specs.Boxes.{Box}
use Rattle.relay_wire.specs.Replies.{Replied}
use Rattle.session_model.specs.Clients.{Client}
use Rattle.sync_model.specs.Courses.{course_of}
use Rattle.sync_model.specs.Transfers.{HasCounters, HasRoom, HasRoomForAll, IsGuardedFor}
use Rattle.client.specs.Syncing.Arrivals.{AreExpected, HasOpened, HoldsPackets, OpensArrived}
use Rattle.client.specs.Syncing.GoingOver.{IsCourseServed, boxes_left, positions_of}
use Rattle.client.specs.Syncing.InWorlds.{IsKeptIn}
use Rattle.client.specs.Syncing.Parties.{client_party}
use Rattle.client.specs.Syncing.Transfers.{HasBoxes, Transfers}

-- A sync led a client from what it kept to this, and the relay's boxes to these, and came to its end by that relay's replies.
pub record IsServedSync (k : Mechanism) (prefix : List ℕ) (first next : Client) (boxes left : List Box) : Type 0 where
  pub replies : List Replied
  pub served : IsCourseServed k prefix first boxes replies
  pub keeps : next ≡ (course_of (client_party k prefix first) first replies).state
  pub boxes_are : left ≡ boxes_left k prefix first boxes replies
  pub transfers : Transfers (client_party k prefix first) first replies
  pub opens : OpensArrived k prefix first replies

-- In all worlds of one conversation that the two sides stand for: where the peer's box held packets
-- of these positions, those that wait fit into it, and each is expected at its turn, the receiver
-- has come to open them: in order, each once. Where a box has a guard, the sender has its keys, and
-- of its own box the receiver has; and counters are left.
abbrev pub HasGoneOver : Mechanism → List ℕ → Side → Client → Client → Client → List Box → Type 0
HasGoneOver k prefix side sender receiver received boxes =
    (w v : World) (own peers : Box) (ps : List Position)
    → IsKeptIn k side sender w → IsKeptIn k (peer_of side) receiver v → v.conversation ≡ w.conversation
    → HasBoxes (client_party k prefix sender) boxes own peers
    → IsGuardedFor (client_party k prefix receiver).keys Owner peers.guard
    → HasCounters Owner (2 * (length peers.packets + length sender.outbox) + 1) peers.guard
    → HasRoom (client_party k prefix sender) sender own.packets
    → HasRoomForAll (client_party k prefix sender).keys
    (map (λ (item : Post). item.packet) sender.outbox) peers
    → HoldsPackets k v peers ps
    → AreExpected k v (peer_of side) (ps ++ positions_of sender)
    → HasOpened k v (peer_of side) (ps ++ positions_of sender) received

-- so it is by two such syncs, the receiver's on the boxes that the sender's left
abbrev pub SyncsGoOver : Mechanism → Type 0
SyncsGoOver k = (prefix again : List ℕ) (side : Side) (sender sent receiver received : Client) (boxes between after : List Box)
    → IsServedSync k prefix sender sent boxes between → IsServedSync k again receiver received between after
    → HasGoneOver k prefix side sender receiver received boxes
