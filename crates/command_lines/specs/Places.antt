-- A place on a disk where a command works, and what it holds before the command and after it.
use Rattle.std.specs.Prelude.{List, None, Ok, Some, option_map, ℕ, ◌⊎◌, ◌≡◌}
use Rattle.dr_base.specs.declared.position.Side.{Side}
use Rattle.dr_disk.specs.Spans.{HavePassed, IsQuiet, Span}
use Rattle.dr_disk.specs.State.{Always, DiskState}
use Rattle.dr_model.specs.Machines.Worlds.{World}
use Rattle.endings.specs.declared.ending.Ending.{Ending}
use Rattle.kem_laws.specs.Mechanism.{Mechanism}
use Rattle.session_model.specs.Clients.{Client}
use Rattle.session_record.specs.Record.{record_read, record_text}
use Rattle.client.specs.Cells.{Cell}
use Rattle.client.specs.InWorlds.{CellStandsFor}
use Rattle.client.specs.Keepings.{Keeping}
use Rattle.client.specs.Opening.{IsAsReadInCell, IsEntryOrAsReadInCell}

pub record Place : Type 1 where
  pub cell : Cell
  -- a disk is at rest there for what is kept
  pub rests : Client → DiskState → Type 0
  -- what a read gives lies at rest there, and in the newest version
  pub read_at_rest : DiskState → Type 0
  -- why no session is found there, how a command ends then, and what has happened
  pub Refusal : Type 0
  pub ending : Refusal → Ending
  pub refused : {X : Type 0} → (X → DiskState) → X → X → Refusal → Type 0

-- what a read gives is read as what a client keeps
abbrev pub ReadsAsKeptInCell : Cell → Mechanism → DiskState → Client → Type 0
ReadsAsKeptInCell cell k disk kept = (s : List ℕ) → disk.seen ≡ Some s
    → option_map (record_read k) (cell.record_in s) ≡ Some (Ok kept)

-- bytes that are read without damage where those were that a read gave at entry, and are the same
-- outside the cell
pub record StaysSoundInCell (cell : Cell) (start : DiskState) (c : List ℕ) : Type 0 where
  pub read : List ℕ
  pub told : start.seen ≡ Some read
  pub undamaged : cell.undamaged read → cell.undamaged c
  pub outside : cell.outside read c

-- bytes with a client's record, read without damage, and the same outside the cell as at entry
pub record HasRecordUnharmedInCell (cell : Cell) (kept : Client) (start : DiskState) (c : List ℕ)
    : Type 0 where
  pub has : cell.record_in c ≡ Some (record_text kept)
  pub undamaged : cell.undamaged c
  pub sound : StaysSoundInCell cell start c

-- bytes as those that were read, or with the record of one of two clients
pub data IsReadOrEitherInCell (cell : Cell) (k : Mechanism) (before after : Client)
    (start : DiskState) (c : List ℕ) : Type 0 where
  is_read : IsAsReadInCell cell k start c → IsReadOrEitherInCell cell k before after start c
  is_before : HasRecordUnharmedInCell cell before start c
      → IsReadOrEitherInCell cell k before after start c
  is_after : HasRecordUnharmedInCell cell after start c
      → IsReadOrEitherInCell cell k before after start c

-- Each crash meanwhile leaves what one might have left at entry, or what is as what was read; a
-- read gives such.
pub record LeavesAsReadInCell (cell : Cell) (k : Mechanism) (start now : DiskState) : Type 0 where
  pub any_moment : Span start now (IsEntryOrAsReadInCell cell k start)
  pub reads : (s : List ℕ) → now.seen ≡ Some s → IsAsReadInCell cell k start s

-- or what has one of two clients' records
pub record LeavesEitherInCell (cell : Cell) (k : Mechanism) (before after : Client)
    (start now : DiskState) : Type 0 where
  pub any_moment : Span start now
      (λ c. start.image c ⊎ IsReadOrEitherInCell cell k before after start c)
  pub reads : (s : List ℕ) → now.seen ≡ Some s → IsReadOrEitherInCell cell k before after start s

-- and then all is at rest for the latter, and no call failed
pub record LeavesPlaceAtRest (place : Place) (k : Mechanism) (before after : Client)
    (start now : DiskState) : Type 0 where
  pub either : LeavesEitherInCell place.cell k before after start now
  pub rests : place.rests after now
  pub quiet : IsQuiet start now

-- A session was opened: all is at rest for what is kept, each image is as what was read, and no
-- call failed. Where it lay at rest before, one sync is all that was called but reads.
pub record StandsOpen (place : Place) (k : Mechanism) (kept : Client) (start opened : DiskState)
    : Type 0 where
  pub rests : place.rests kept opened
  pub alike : Always (IsAsReadInCell place.cell k start) opened
  pub quiet : IsQuiet start opened
  pub one_sync : place.read_at_rest start → HavePassed 1 start opened

-- ---- in worlds

-- bytes that stand for one of two worlds, and are sound
pub record StandsForOneInCell (cell : Cell) (k : Mechanism) (side : Side) (before after : World)
    (start : DiskState) (c : List ℕ) : Type 0 where
  pub either : CellStandsFor cell k before side c ⊎ CellStandsFor cell k after side c
  pub sound : StaysSoundInCell cell start c

-- Each crash meanwhile leaves what one might have left at entry, or what stands for one of two
-- worlds; a read gives what does.
pub record RunsOnInCell (cell : Cell) (k : Mechanism) (side : Side) (before after : World)
    (start now : DiskState) : Type 0 where
  pub any_moment : Span start now
      (λ c. start.image c ⊎ StandsForOneInCell cell k side before after start c)
  pub reads : (s : List ℕ) → now.seen ≡ Some s
      → StandsForOneInCell cell k side before after start s

-- ---- what keeps a session there

-- it was opened: it keeps what was read, and the disk is at rest for that
pub record IsOpenedAt {S : Type 0} (place : Place) (keeping : Keeping S) (k : Mechanism) (s : S)
    (start now : DiskState) : Type 0 where
  pub is_open : keeping.closed s ≡ None
  pub ready : keeping.ready s now
  pub read : ReadsAsKeptInCell place.cell k start (keeping.kept s)
  pub alike : Always (IsAsReadInCell place.cell k start) now
  pub quiet : IsQuiet start now
