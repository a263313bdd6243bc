-- Where a sync comes to its end: what the link tells, and that nothing fails.
use Rattle.std.specs.Prelude.{List, Some, [], ℕ, ◌++◌, ◌≡◌}
use Rattle.std.specs.List.{AllByRecursion}
use Rattle.dr_base.specs.Causes.{Rose}
use Rattle.dr_disk.specs.State.{DiskState}
use Rattle.dr_ports.specs.Wires.{Port, Told}
use Rattle.dr_ports.specs.declared.pipe.Part.{Part}
use Rattle.endings.specs.declared.ending.Ending.{Ending}
use Rattle.endings.specs.declared.ending.Ending.TheVariants.{BoxFull, Denied, Done, NoBox, Peer, Refused}
use Rattle.kem_laws.specs.Mechanism.{Mechanism}
use Rattle.relay_pipe.specs.declared.faults.PeerKind.TheVariants.{Wrong}
use Rattle.relay_wire.specs.Framed.{reply_text}
use Rattle.relay_wire.specs.Replies.{IsLawfulReplied, Replied}
use Rattle.relay_wire.specs.Requests.{Asked}
use Rattle.session_model.specs.Clients.{Client}
use Rattle.session_model.specs.declared.answer.Refusal.TheVariants.{InboxFull}
use Rattle.sync_model.specs.Carried.{replied_bytes, request_bytes}
use Rattle.sync_model.specs.Courses.{asked_now, course_of, made_requests}
use Rattle.sync_model.specs.Moves.{Ending as CourseEnding, box_is_full, denied_by, ended, inbox_full, no_such_box, wrong}
use Rattle.sync_model.specs.Parties.{Party}
use Rattle.client.specs.Syncing.Parties.{client_party}
use Rattle.session_commands.specs.Disks.{ReadsAsKept}
use Rattle.session_commands.specs.Syncing.{CameToEnd, HasTalkedTo}

-- one lawful reply, and nothing more
pub record IsOneReply (bytes : List ℕ) : Type 0 where
  pub reply : Replied
  pub lawful : IsLawfulReplied reply
  pub whole : bytes ≡ reply_text reply

-- The link tells what it gives. Where a sync has read lawful replies and sends its next request,
-- what the link then gives after these replies is one more.
pub record AnswersEach (p : Party Client) (kept : Client) (link : Port) : Type 0 where
  pub at : Told
  pub told : link.told ≡ Some at
  pub answers : (replies : List Replied) (asked : Asked) (rest : List ℕ)
      → AllByRecursion IsLawfulReplied replies
      → asked_now p (course_of p kept replies) ≡ Some asked
      → at.now.gives (at.now.sent ++ request_bytes (made_requests p (course_of p kept replies)))
      ≡ at.now.received ++ (replied_bytes replies ++ rest)
      → IsOneReply rest

-- so it is for whatever client the disk reads as
abbrev pub AnswersClient : Mechanism → DiskState → Port → Type 0
AnswersClient k disk link = (kept : Client) → ReadsAsKept k disk kept
    → AnswersEach (client_party k [] kept) kept link

-- no call on the link failed, and no write
pub record NoneFailedOver (link left : Port) (before after : ℕ) : Type 0 where
  pub calls : (part : Part) → Rose (link.faults part) (left.faults part) → ⊥
  pub writes : Rose before after → ⊥

-- how the command ends, by how its course ended
abbrev pub ending_of_course : CourseEnding → Ending
ending_of_course (ended which) = Done
ending_of_course inbox_full = Refused InboxFull
ending_of_course box_is_full = BoxFull
ending_of_course no_such_box = NoBox
ending_of_course (denied_by rule) = Denied rule
ending_of_course wrong = Peer Wrong 2

-- The course of the replies that were read came to its end: all is at rest for what it keeps, and
-- the command ends so.
pub record EndsCourse (p : Party Client) (kept : Client) (start now : DiskState) (ending : Ending)
    (opened last : Port) : Type 0 where
  pub replies : List Replied
  pub lawful : AllByRecursion IsLawfulReplied replies
  pub how : CourseEnding
  pub came : CameToEnd p kept replies how start now opened last
  pub ends : ending ≡ ending_of_course how

-- the sync of the client that the disk reads as, at this address, came to its end
pub record SyncedToEnd (k : Mechanism) (address : List ℕ) (start now : DiskState) (link left : Port)
    (ending : Ending) : Type 0 where
  pub kept : Client
  pub read : ReadsAsKept k start kept
  pub course : HasTalkedTo address link left
      (EndsCourse (client_party k [] kept) kept start now ending)
