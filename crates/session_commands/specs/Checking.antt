-- What the command `check` comes to, before its last line.
use Rattle.std.specs.Prelude.{Bool, List, [], codes, decimal, false, true, ℕ, ◌++◌, ◌≡◌}
use Rattle.dr_base.specs.Causes.{Rose}
use Rattle.dr_disk.specs.declared.call.Call.TheVariants.{Read}
use Rattle.dr_disk.specs.Calls.{Unwritten}
use Rattle.dr_disk.specs.Spans.{IsQuiet, Span}
use Rattle.dr_disk.specs.State.{DiskState, OnSeen}
use Rattle.endings.specs.declared.ending.Ending.{Ending}
use Rattle.endings.specs.declared.ending.Ending.TheVariants.{DiskFault, Done, NoMemory}
use Rattle.kem_laws.specs.Mechanism.{Mechanism}
use Rattle.slot_store.specs.declared.errors.InspectError.{InspectError}
use Rattle.slot_store.specs.declared.errors.InspectError.TheVariants.{Memory as LookMemory, StoreFault as LookFault}
use Rattle.slot_store.specs.declared.report.Finding.{Finding}
use Rattle.slot_store.specs.declared.report.Finding.TheVariants.{Damaged, Empty, Record}
use Rattle.slot_store.specs.declared.report.Gate.{Gate}
use Rattle.slot_store.specs.declared.report.Gate.TheVariants.{Closed, Open}
use Rattle.slot_store.specs.declared.report.Report.{Report}
use Rattle.slot_store.specs.Reports.{IsReport}
use Rattle.client.specs.Clients.{client_area}
use Rattle.client.specs.Opening.{client_record_fault}
use Rattle.command_lines.specs.Lines.{count_line}

-- ---- the lines of a report

-- a table, open with its turn or closed
unfoldable pub gate_line : ℕ → Gate → List ℕ
gate_line slot Closed = codes "slot " ++ decimal slot ++ codes " closed\n"
gate_line slot (Open turn) = codes "slot " ++ decimal slot ++ count_line (codes " open ") turn

unfoldable pub finding_line : Finding → List ℕ
finding_line Empty = codes "no record\n"
finding_line (Record length) = count_line (codes "record ") length
finding_line (Damaged slot at) =
    codes "damaged slot " ++ decimal slot ++ codes " at " ++ decimal at ++ codes "\n"

unfoldable pub rest_line : Bool → List ℕ
rest_line true = codes "rest yes\n"
rest_line false = codes "rest no\n"

-- both tables, and what was found
unfoldable pub gate_lines : Report → List ℕ
gate_lines report = gate_line 0 report.first ++ gate_line 1 report.second

unfoldable pub found_lines : Report → List ℕ
found_lines report = finding_line report.found ++ rest_line report.rest

abbrev pub report_lines : Report → List ℕ
report_lines report = gate_lines report ++ found_lines report

-- ---- what the command comes to

-- the ending where the area wasn't read
abbrev pub ending_of_look : InspectError → Ending
ending_of_look LookMemory = NoMemory
ending_of_look (LookFault call) = DiskFault

-- Memory was wanting, and no call was made; a read failed; or the report of the bytes that a read
-- gives is shown.
pub data Checked {X : Type 0} (state : X → DiskState) (k : Mechanism) (start now : X)
    : Ending → List ℕ → Type 0 where
  had_no_memory : now ≡ start → Checked state k start now NoMemory []
  read_failed : Rose ((state start).faults Read) ((state now).faults Read)
      → Checked state k start now DiskFault []
  was_checked : (report : Report)
      → OnSeen (IsReport (client_record_fault k) client_area report) (state start)
      → IsQuiet (state start) (state now) → Checked state k start now Done (report_lines report)

-- Nothing is written or synced, and no crash meanwhile leaves anything else.
pub record RunsCheck {X : Type 0} (state : X → DiskState) (k : Mechanism) (start now : X)
    (ending : Ending) (lines : List ℕ) : Type 0 where
  pub checked : Checked state k start now ending lines
  pub unwritten : Unwritten (state start) (state now)
  pub passed : (state now).passed ≡ (state start).passed
  pub any_moment : Span (state start) (state now) (state start).image
