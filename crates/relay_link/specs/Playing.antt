-- A sync over a link on which this many replies come is a scene.
use Rattle.std.specs.Prelude.{◌≡◌, ◌<◌, ◌≤◌, ℕ, List, [], ◌++◌, length, drop, All, Some, Err}
use Rattle.std.specs.List.{AllByRecursion}
use Rattle.dr_ports.specs.Wires.{IsAtEnd}
use Rattle.relay_wire.specs.Frames.{IsFrame, IsPartial}
use Rattle.relay_wire.specs.Requests.{Asked, IsLawfulAsked}
use Rattle.relay_wire.specs.Replies.{IsLawfulReplied, Replied, read_reply}
use Rattle.relay_wire.specs.declared.reply.BadReply.{BadReply}
use Rattle.relay_core.specs.Boxes.{Box}
use Rattle.relay_core.specs.Lawful.{IsLawfulBox}
use Rattle.sync_model.specs.Parties.{Party}
use Rattle.sync_model.specs.Moves.{Ending, over}
use Rattle.sync_model.specs.Courses.{asked_now, course_of, made_requests}
use Rattle.sync_model.specs.Transfers.{Meeting}
use Rattle.sync_model.specs.Carried.{replied_bytes, request_bytes}
use Rattle.relay_wire.specs.Framed.{request_frame}
use Rattle.sync_model.specs.Scenes.{scene}
use Rattle.relay_link.specs.Bringing.{IsBrought}
use Rattle.relay_link.specs.Connections.{LinkConnection, boxes_now, connection_wire}
use Rattle.relay_link.specs.declared.limits.TheConstants.{REPLY_LIMIT}

module _ {S : Type 0} (p : Party S) where
  -- The replies were read, each while its request waited, and these bytes after them; the requests were sent, and these bytes.
  pub record IsSynced (kept : ℕ) (s : S) (boxes : List Box) (replies : List Replied) (rest put : List ℕ) (now : LinkConnection) : Type 0 where
    pub lawful_boxes : All IsLawfulBox boxes
    pub lawful_requests : AllByRecursion IsLawfulAsked (made_requests p (course_of p s replies))
    pub lawful_replies : AllByRecursion IsLawfulReplied replies
    pub few : kept ≤ REPLY_LIMIT
    pub waited : length (course_of p s replies).requests ≡ length replies
    pub brought : IsBrought boxes kept (replied_bytes replies ++ rest) (request_bytes (course_of p s replies).requests ++ put) now

  -- the course, and the link's boxes
  abbrev pub synced : S → List Replied → LinkConnection → Meeting S
  synced s replies now = record { course = course_of p s replies; boxes = boxes_now now }

-- Where the sync has ended, and where a call on the link failed, it is the scene. Nothing else than a reply comes, and the link
-- doesn't end.
pub record IsPlaying (S : Type 0) : Type 0 where
  pub ended : (p : Party S) (kept : ℕ) (s : S) (boxes : List Box) (replies : List Replied) (now : LinkConnection) → IsSynced p kept s boxes replies [] [] now
      → (ending : Ending) → (course_of p s replies).wait ≡ over ending → scene p kept s boxes ≡ synced p s replies now
  pub broken : (p : Party S) (kept : ℕ) (s : S) (boxes : List Box) (replies : List Replied) (rest put : List ℕ) (now : LinkConnection)
      → IsSynced p kept s boxes replies rest put now → (asked : Asked) → asked_now p (course_of p s replies) ≡ Some asked
      → (left : List ℕ) → request_frame asked ≡ put ++ left → 0 < now.faults → scene p kept s boxes ≡ synced p s replies now
  pub always_read : (p : Party S) (kept : ℕ) (s : S) (boxes : List Box) (replies : List Replied) (rest : List ℕ) (now : LinkConnection) (asked : Asked)
      → IsSynced p kept s boxes replies rest (request_frame asked) now → asked_now p (course_of p s replies) ≡ Some asked
      → (bad : BadReply) → IsFrame rest → read_reply (drop 2 rest) ≡ Err bad → ⊥
  pub never_ends : (p : Party S) (kept : ℕ) (s : S) (boxes : List Box) (replies : List Replied) (rest : List ℕ) (now : LinkConnection) (asked : Asked)
      → IsSynced p kept s boxes replies rest (request_frame asked) now → asked_now p (course_of p s replies) ≡ Some asked
      → IsPartial rest → IsAtEnd (connection_wire now) → ⊥
