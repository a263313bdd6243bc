-- A sync whose replies are those of a relay.
use Rattle.std.specs.Prelude.{All, List, Some, [], length, ℕ, ◌+◌, ◌*◌, ◌++◌, ◌≡◌}
use Rattle.dr_base.specs.Causes.{Rose}
use Rattle.dr_disk.specs.declared.call.Call.{Call}
use Rattle.dr_ports.specs.Wires.{Port, Told}
use Rattle.dr_ports.specs.declared.pipe.Part.TheVariants.{Flow}
use Rattle.relay_guard.specs.declared.guard.Role.TheVariants.{Owner}
use Rattle.relay_core.specs.Boxes.{Box, box_of}
use Rattle.relay_core.specs.Lawful.{IsLawfulBox}
use Rattle.relay_core.specs.Streams.{reply_bytes, served}
use Rattle.relay_wire.specs.Replies.{Replied}
use Rattle.session_model.specs.Clients.{Client}
use Rattle.sync_model.specs.Carried.{IsCarried, request_bytes}
use Rattle.sync_model.specs.Courses.{course_of}
use Rattle.sync_model.specs.Moves.{Ending, ended, over}
use Rattle.sync_model.specs.Parties.{Party}
use Rattle.sync_model.specs.Transfers.{HasCounters, HasRoom, HasRoomForAll, IsGuardedFor, collected, posted, sent_all, taken_all}
use Rattle.sync_model.specs.declared.more.More.TheVariants.{End}
use Rattle.client.specs.Syncing.Moments.{Moment}

-- ---- the relay, its link, and no fault

-- the relay has the client's box and its peer's, among lawful ones; where the own one has a guard,
-- it has the sync's key, and counters left
pub record HasBoxes (p : Party Client) (boxes : List Box) (own peers : Box) : Type 0 where
  pub lawful : All IsLawfulBox boxes
  pub own_box : box_of p.own boxes ≡ Some own
  pub peers_box : box_of p.peers boxes ≡ Some peers
  pub own_guard : IsGuardedFor p.keys Owner own.guard
  pub own_counters : HasCounters Owner (2 * length own.packets + 1) own.guard

-- after what it gave so far, the link gives what a relay with these boxes replies to all that is sent from now on
pub record CarriesReplies (boxes : List Box) (start : Port) : Type 0 where
  pub told : Told
  pub tells : start.told ≡ Some told
  pub gives : (put : List ℕ) → told.now.gives (told.now.sent ++ put) ≡ told.now.received ++ reply_bytes (served boxes put)

-- no count of failed calls rose: of the disk, of the link, of the sink
pub record IsUnfailing (a b : Moment) (start now : Port) : Type 0 where
  pub disk : (call : Call) → Rose (a.disk.faults call) (b.disk.faults call) → ⊥
  pub link : Rose (start.faults Flow) (now.faults Flow) → ⊥
  pub sink : Rose a.sink.faults b.sink.faults → ⊥

-- ---- what comes of it, by the replies that were read

-- the relay's boxes, which are lawful, once it has answered the requests that were made
pub record HaveAnswered (p : Party Client) (first : Client) (replies : List Replied) (boxes after : List Box) : Type 0 where
  pub boxes_are : after ≡ (served boxes (request_bytes (course_of p first replies).requests)).next
  pub lawful : All IsLawfulBox after

-- The packets of the own box were taken in turn, and it is empty. This many of the outbox have left it since.
pub record Collected (p : Party Client) (first : Client) (replies : List Replied) (boxes : List Box) (own : Box) : Type 0 where
  pub after : List Box
  pub answered : HaveAnswered p first replies boxes after
  pub own_box : box_of p.own after ≡ Some (collected own)
  pub count : ℕ
  pub keeps : (course_of p first replies).state ≡ sent_all p count (taken_all p first own.packets)

-- The packets of the own box were taken in turn, and it is empty. Those of the outbox stand in the peer's box, in order after
-- those that stood, and the outbox is empty.
pub record Delivered (p : Party Client) (first : Client) (replies : List Replied) (boxes : List Box) (own peers : Box) : Type 0 where
  pub ends : (course_of p first replies).wait ≡ over (ended End)
  pub after : List Box
  pub answered : HaveAnswered p first replies boxes after
  pub own_box : box_of p.own after ≡ Some (collected own)
  pub peers_box : box_of p.peers after ≡ Some (posted peers (p.outbox first))
  pub keeps : (course_of p first replies).state ≡ sent_all p (length (p.outbox first)) (taken_all p first own.packets)
  pub leaves : (course_of p first replies).state.outbox ≡ []

-- the course has come to an end
abbrev pub IsPast : Party Client → Client → List Replied → Type 0
IsPast p first replies = (ending : Ending) × ((course_of p first replies).wait ≡ over ending)

-- Where the replies are those of a relay with these boxes to the requests that were made, the course has come to its end and each
-- text of the own box finds room at its turn, the own box is collected; and where the packets of the outbox fit into the peer's
-- box, they are delivered.
abbrev pub Transfers : Party Client → Client → List Replied → Type 0
Transfers p first replies = (boxes : List Box) (own peers : Box) → HasBoxes p boxes own peers → HasRoom p first own.packets
    → IsCarried p first boxes replies → IsPast p first replies
    → Collected p first replies boxes own × (HasRoomForAll p.keys (p.outbox first) peers → Delivered p first replies boxes own peers)

-- ---- over a link that tells

-- Where the link carries a relay's replies and no call fails, the replies are that relay's, and the course comes to its end.
abbrev pub Carries : Party Client → List Replied → Moment → Moment → Port → Port → Type 0
Carries p replies a b start now = (boxes : List Box) → All IsLawfulBox boxes → CarriesReplies boxes start → IsUnfailing a b start now
    → IsCarried p a.client.kept boxes replies × IsPast p a.client.kept replies
