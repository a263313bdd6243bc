-- What a sync finds and leaves, but for the link.
use Rattle.std.specs.Prelude.{Bool, Err, List, None, Ok, Result, Some, false, true, ℕ, ◌≡◌, ◌⊎◌}
use Rattle.dr_base.specs.Causes.{Rose}
use Rattle.dr_disk.specs.Spans.{HavePassed, IsQuiet}
use Rattle.dr_disk.specs.State.{DiskState, all_pass}
use Rattle.dr_disk.specs.declared.call.Call.{Call}
use Rattle.dr_ports.specs.Ports.{appended}
use Rattle.dr_ports.specs.States.{SinkState}
use Rattle.dr_ports.specs.Writing.{TookBeginning}
use Rattle.dr_model.specs.Machines.Steps.{Step}
use Rattle.session_model.specs.Clients.{Client}
use Rattle.session_model.specs.declared.answer.Answer.{Answer}
use Rattle.client.specs.Clients.{ClientNow, IsReady}
use Rattle.client.specs.Outcomes.{IsReplacing, replacing_calls}
use Rattle.client.specs.declared.syncing.faults.SyncFault.{SyncFault}
use Rattle.client.specs.declared.syncing.faults.SyncFault.TheVariants.{Refused, Write}
use Rattle.client.specs.declared.syncing.faults.SyncRefusal.TheVariants.{InboxFull}

-- at one moment: the client, its disk, and how the sink stands
pub record Moment : Type 1 where
  pub client : ClientNow
  pub disk : DiskState
  pub sink : SinkState

abbrev pub moment : ClientNow → DiskState → SinkState → Moment
moment client disk sink = record { client = client; disk = disk; sink = sink }

-- just the calls on the disk that replace the one record by the other; or none, where nothing changes
abbrev pub IsCounted : Client → Client → DiskState → DiskState → Type 0
IsCounted before after start now =
    ((after ≡ before) × HavePassed 0 start now) ⊎ HavePassed (replacing_calls before after) start now

-- From one moment to another the client came to keep this, and its disk holds that at rest; meanwhile each crash left the
-- record of before or this one. No call on the disk was made but those that it takes, and none failed; where all pass, all pass
-- from then on.
pub record HasMovedOn (next : Client) (old new : ClientNow) (start now : DiskState) : Type 0 where
  pub keeps : new.kept ≡ next
  pub is_open : new.closed ≡ None
  pub ready : IsReady new.kept new.store now
  pub during : IsReplacing old.kept next start now
  pub counted : IsCounted old.kept next start now
  pub quiet : IsQuiet start now
  pub fate : start.fate ≡ all_pass → now.fate ≡ all_pass

abbrev pub Moved : Client → Moment → Moment → Type 0
Moved next a b = HasMovedOn next a.client b.client a.disk b.disk

-- A call on the disk failed, of this kind, before it was known to hold this. The client is closed, and keeps what it kept.
-- Where all calls pass this doesn't happen.
pub record IsBrokenOff (next : Client) (call : Call) (old new : ClientNow) (start now : DiskState) : Type 0 where
  pub keeps : new.kept ≡ old.kept
  pub closes : new.closed ≡ Some call
  pub during : IsReplacing old.kept next start now
  pub rose : Rose (start.faults call) (now.faults call)
  pub fate : start.fate ≡ all_pass → ⊥

abbrev pub BrokenOff : Client → Call → Moment → Moment → Type 0
BrokenOff next call a b = IsBrokenOff next call a.client b.client a.disk b.disk

-- these bytes were written, and no write failed
pub record Wrote (bytes : List ℕ) (a b : Moment) : Type 0 where
  pub bytes_are : b.sink.taken ≡ appended a.sink.taken bytes
  pub unfailing : b.sink.faults ≡ a.sink.faults

-- a write failed: a beginning of them was written
pub record WroteBeginning (bytes : List ℕ) (a b : Moment) : Type 0 where
  pub beginning : TookBeginning a.sink.taken b.sink.taken bytes
  pub rose : Rose a.sink.faults b.sink.faults

-- ---- a step

-- the step was made, with its answer; or a call on the disk failed in it, of this kind
abbrev pub IsTaken : Step Client → ClientNow → ClientNow → DiskState → DiskState → Result Answer Call → Type 0
IsTaken made old new start now (Ok answer) = (answer ≡ made.answer) × HasMovedOn made.next old new start now
IsTaken made old new start now (Err call) = IsBrokenOff made.next call old new start now

abbrev pub HasGone : Step Client → ClientNow → ClientNow → DiskState → DiskState → Result Unit Call → Type 0
HasGone made old new start now (Ok u) = HasMovedOn made.next old new start now
HasGone made old new start now (Err call) = IsBrokenOff made.next call old new start now

-- ---- a line

-- the answer to a packet was written, where there was room for its text
pub data IsAnswerWritten (line : List ℕ) (full : Bool) (old new : SinkState)
    : Result Unit SyncFault → Type 0 where
  was_written : (u : Unit {0}) → full ≡ false → new.taken ≡ appended old.taken line
      → new.faults ≡ old.faults → IsAnswerWritten line full old new (Ok u)
  was_cut : full ≡ false → TookBeginning old.taken new.taken line → Rose old.faults new.faults
      → IsAnswerWritten line full old new (Err Write)
  had_no_room : full ≡ true → new.taken ≡ old.taken → new.faults ≡ old.faults
      → IsAnswerWritten line full old new (Err (Refused InboxFull))
