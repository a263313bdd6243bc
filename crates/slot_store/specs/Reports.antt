-- What a look at an area reports of its bytes.
use Rattle.std.specs.Prelude.{◌≡◌, ◌↔◌, ℕ, false, true, List, length, Option, IsTrue, if◌then◌else◌}
use Rattle.pages.specs.Tables.{Table, is_open, table_at, table_turn}
use Rattle.slot_store.specs.declared.report.Finding.{Finding}
use Rattle.slot_store.specs.declared.report.Finding.TheVariants.{Damaged, Empty, Record}
use Rattle.slot_store.specs.declared.report.Gate.{Gate}
use Rattle.slot_store.specs.declared.report.Gate.TheVariants.{Closed, Open}
use Rattle.slot_store.specs.declared.report.Report.{Report}
use Rattle.slot_store.specs.Areas.{Area, layout_of}
use Rattle.slot_store.specs.AtRest.{IsAtRest}
use Rattle.slot_store.specs.Layout.{Mark}
use Rattle.slot_store.specs.Reading.{AreaReading, damaged, holds, no_content, area_reading, reading_of}

-- open with its turn, or closed
abbrev pub gate_of : Table → Gate
gate_of table = if is_open table then Open (table_turn table) else Closed

-- of a record its length
abbrev pub finding_of : AreaReading → Finding
finding_of no_content = Empty
finding_of (holds text) = Record (length text)
finding_of (damaged slot at) = Damaged slot at

-- at rest for what the bytes are read as, a record or none, and so never where they are damaged
pub record RestsAsFound (fault_at : List ℕ → Option ℕ) (area : Area) (s : List ℕ) : Type 0 where
  pub mark : Mark
  pub text : Option (List ℕ)
  pub rests : IsAtRest area mark text s
  pub read : area_reading fault_at area s ≡ reading_of text

-- the report of these bytes
pub record IsReport (fault_at : List ℕ → Option ℕ) (area : Area) (report : Report) (s : List ℕ)
    : Type 0 where
  pub first : report.first ≡ gate_of (table_at (layout_of area) false s)
  pub second : report.second ≡ gate_of (table_at (layout_of area) true s)
  pub found : report.found ≡ finding_of (area_reading fault_at area s)
  pub rest : IsTrue report.rest ↔ RestsAsFound fault_at area s
