-- What the command that lists the names of a book comes to, before its last line.
use Rattle.std.specs.Prelude.{List, None, Option, Some, [], codes, flat_map, ℕ, ◌++◌, ◌≡◌}
use Rattle.dr_disk.specs.Spans.{IsQuiet}
use Rattle.dr_disk.specs.State.{DiskState}
use Rattle.endings.specs.declared.ending.Ending.{Ending}
use Rattle.endings.specs.declared.ending.Ending.TheVariants.{Done}
use Rattle.kem_laws.specs.Mechanism.{Mechanism}
use Rattle.session_model.specs.Clients.{Client}
use Rattle.book_model.specs.Rows.{Row, Rows}
use Rattle.book_store.specs.declared.errors.BookOpenError.{BookOpenError}
use Rattle.book.specs.Books.{BookNow, IsBookReady}
use Rattle.book_commands.specs.Opening.{IsBookUnopened, LeavesBookAsRead, ReadsSessions, ending_of_open_book}

-- the name of a row that is present
abbrev pub row_line : Option (Row Client) → List ℕ
row_line None = []
row_line (Some row) = row.name ++ codes "\n"

-- one a line, by row
abbrev pub name_lines : Rows Client → List ℕ
name_lines sessions = flat_map row_line sessions

-- each image is at rest for the book of these sessions
pub record IsBookAtRestFor (sessions : Rows Client) (disk : DiskState) : Type 0 where
  pub book : BookNow
  pub rows : book.rows ≡ sessions
  pub ready : IsBookReady book disk

-- The book wasn't opened, or the names that were read are shown.
pub data Listed {X : Type 0} (state : X → DiskState) (k : Mechanism) (start now : X)
    : Ending → List ℕ → Type 0 where
  wasnt_opened : (error : BookOpenError) → IsBookUnopened k (state start) (state now) error
      → Listed state k start now (ending_of_open_book error) []
  was_listed : (sessions : Rows Client) → ReadsSessions k sessions (state start)
      → IsBookAtRestFor sessions (state now) → IsQuiet (state start) (state now)
      → Listed state k start now Done (name_lines sessions)

pub record RunsList {X : Type 0} (state : X → DiskState) (k : Mechanism) (start now : X)
    (ending : Ending) (lines : List ℕ) : Type 0 where
  pub listed : Listed state k start now ending lines
  pub leaves : LeavesBookAsRead k (state start) (state now)
