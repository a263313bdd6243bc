-- The row of a name as the place where a command works. The other rows lie outside of it.
use Rattle.std.specs.Prelude.{List, None, Some, ℕ, ◌≡◌}
use Rattle.dr_disk.specs.Spans.{IsQuiet}
use Rattle.dr_disk.specs.State.{DiskState, OnSeen}
use Rattle.endings.specs.declared.ending.Ending.{Ending}
use Rattle.endings.specs.declared.ending.Ending.TheVariants.{NoName}
use Rattle.kem_laws.specs.Mechanism.{Mechanism}
use Rattle.book_store.specs.Opened.{IsBookReadAtRest}
use Rattle.book_store.specs.Reading.{record_under}
use Rattle.book_store.specs.declared.errors.BookOpenError.{BookOpenError}
use Rattle.book_store.specs.declared.layout.TheConstants.{BOOK_ROWS}
use Rattle.client.specs.Cells.{Cell}
use Rattle.book.specs.Opening.{IsBookReadNewest}
use Rattle.book.specs.RowCells.{opened_row_cell}
use Rattle.command_lines.specs.Places.{Place}
use Rattle.book_commands.specs.Opening.{IsBookUnopened, IsRowAtRest, ending_of_open_book}

-- the row of the name, in a book of all rows
abbrev pub name_cell : Mechanism → List ℕ → Cell
name_cell k name = opened_row_cell k BOOK_ROWS name

-- why no session is found under a name: the book isn't opened, or no row has the name
pub data Missing : Type 0 where
  not_opened : BookOpenError → Missing
  has_no_row : Missing

abbrev pub ending_of_missing : Missing → Ending
ending_of_missing (not_opened error) = ending_of_open_book error
ending_of_missing has_no_row = NoName

-- no row of what was read has the name, and the disk is at rest without one
pub record HasNoRow (name : List ℕ) (start now : DiskState) : Type 0 where
  pub read : OnSeen (λ s. record_under BOOK_ROWS name s ≡ None) start
  pub rests : IsRowAtRest name None now
  pub quiet : IsQuiet start now

abbrev pub IsMissing : {X : Type 0} → Mechanism → List ℕ → (X → DiskState) → X → X → Missing
    → Type 0
IsMissing k name state start now (not_opened error) =
    IsBookUnopened k (state start) (state now) error
IsMissing k name state start now has_no_row = HasNoRow name (state start) (state now)

abbrev pub name_place : Mechanism → List ℕ → Place
name_place k name = record {
  cell = name_cell k name;
  rests = λ kept. IsRowAtRest name (Some kept);
  read_at_rest = λ disk. IsBookReadAtRest BOOK_ROWS disk × IsBookReadNewest BOOK_ROWS disk;
  Refusal = Missing;
  ending = ending_of_missing;
  refused = λ state start now missing. IsMissing k name state start now missing;
}
