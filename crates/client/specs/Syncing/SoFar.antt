-- A sync so far.
use Rattle.std.specs.Prelude.{List, None, Some, if◌then◌else◌, length, ◌==◌, ◌≡◌, ℕ, ◌++◌}
use Rattle.std.specs.List.{AllByRecursion}
use Rattle.dr_disk.specs.Spans.{IsQuiet, Span}
use Rattle.dr_disk.specs.State.{DiskState, all_pass}
use Rattle.dr_ports.specs.Wires.{Port}
use Rattle.dr_ports.specs.declared.pipe.Part.TheVariants.{Flow}
use Rattle.relay_pipe.specs.Exchanging.{Exchanges}
use Rattle.relay_wire.specs.Replies.{IsLawfulReplied, Replied}
use Rattle.session_model.specs.Clients.{Client}
use Rattle.session_record.specs.Record.{record_text}
use Rattle.slot_store.specs.Reading.{IsUndamaged}
use Rattle.slot_store.specs.Records.{stored_record}
use Rattle.slot_store.specs.Store.{KeepsOutsideArea}
use Rattle.sync_model.specs.Carried.{replied_bytes, request_bytes}
use Rattle.sync_model.specs.Courses.{course_of}
use Rattle.sync_model.specs.Moves.{Wait, fetching, waits_by}
use Rattle.sync_model.specs.Parties.{Party}
use Rattle.sync_model.specs.Tokens.{Tokens}
use Rattle.sync_model.specs.declared.limits.TheConstants.{ITEM_LIMIT}
use Rattle.sync_model.specs.declared.more.More.TheVariants.{More as MoreStands}
use Rattle.client.specs.Clients.{IsReady, client_area}
use Rattle.client.specs.Syncing.Moments.{Moment, Wrote}

-- bytes with the record of what the course keeps after a beginning of the replies, read without damage; outside the client's area
-- they are as they were
pub record IsReached (p : Party Client) (first : Client) (replies : List Replied) (start : DiskState) (c : List ℕ) : Type 0 where
  pub front : List Replied
  pub back : List Replied
  pub split : replies ≡ front ++ back
  pub holds : stored_record client_area c ≡ Some (record_text (course_of p first front).state)
  pub undamaged : IsUndamaged client_area c
  pub outside : KeepsOutsideArea client_area start c

-- the client keeps what the course does after these replies, and its disk is at rest for it; no call on the disk failed
pub record Stands (p : Party Client) (replies : List Replied) (a b : Moment) : Type 0 where
  pub keeps : b.client.kept ≡ (course_of p a.client.kept replies).state
  pub is_open : b.client.closed ≡ None
  pub ready : IsReady b.client.kept b.client.store b.disk
  pub quiet : IsQuiet a.disk b.disk
  pub fate : a.disk.fate ≡ all_pass → b.disk.fate ≡ all_pass

-- these replies were read, each while its request waited, and the course's requests were sent; no call on the link failed
pub record Talked (p : Party Client) (first : Client) (replies : List Replied) (start now : Port) : Type 0 where
  pub told : Exchanges (replied_bytes replies) (request_bytes (course_of p first replies).requests) start now
  pub waited : length (course_of p first replies).requests ≡ length replies
  pub quiet : now.faults Flow ≡ start.faults Flow

-- each image meanwhile
abbrev pub Passed : Party Client → List Replied → Moment → Moment → Type 0
Passed p replies a b = Span a.disk b.disk (IsReached p a.client.kept replies a.disk)

-- a sync that waits for this, with these counters
pub record SoFar (p : Party Client) (a b : Moment) (start now : Port) (wait : Wait)
    (tokens : Tokens) : Type 0 where
  pub replies : List Replied
  pub lawful : AllByRecursion IsLawfulReplied replies
  pub waits : (course_of p a.client.kept replies).wait ≡ wait
  pub counts : (course_of p a.client.kept replies).tokens ≡ tokens
  pub stands : Stands p replies a b
  pub talked : Talked p a.client.kept replies start now
  pub wrote : Wrote (course_of p a.client.kept replies).lines a b
  pub passed : Passed p replies a b

-- in the first part, once this many packets are acknowledged: the packets that wait are next where
-- these are as many as a sync acknowledges
abbrev pub collecting : List (List ℕ) → ℕ → Wait
collecting packets n = if n == ITEM_LIMIT then waits_by packets MoreStands else fetching n
