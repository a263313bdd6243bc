-- Opening a book: what its rows are read as, and what stands meanwhile.
use Rattle.std.specs.Prelude.{List, None, Ok, Option, Some, get_or, length, true, ℕ, ⊤, ◌≡◌, ◌⊎◌}
use Rattle.book_model.specs.Rows.{Row, Rows}
use Rattle.book_store.specs.Reading.{IsSameOutsideBook, IsUndamagedBook, book_reading, has_rows}
use Rattle.book_store.specs.Shown.{BookRow, stored_rows}
use Rattle.dr_disk.specs.State.{Always, DiskState, OnSeen}
use Rattle.kem_laws.specs.Mechanism.{Mechanism}
use Rattle.session_model.specs.Clients.{Client}
use Rattle.session_record.specs.Lawful.{IsLawfulClient}
use Rattle.session_record.specs.Record.{record_read}
use Rattle.session_record.specs.Versions.{is_newest}
use Rattle.client.specs.Opening.{client_record_fault}
use Rattle.book.specs.Books.{BookNow, IsBookReady}
use Rattle.book.specs.Rows.{stored}

-- what a store has in a row is read as this session under its name, in whatever version; and it is
-- a lawful one
abbrev pub IsRowRead : Mechanism → Option BookRow → Option (Row Client) → Type 0
IsRowRead k None None = ⊤
IsRowRead k None (Some row) = ⊥
IsRowRead k (Some held) None = ⊥
IsRowRead k (Some held) (Some row) =
    (row.name ≡ held.name) × (record_read k held.text ≡ Ok row.kept) × IsLawfulClient k row.kept

-- and so in each row
abbrev pub AreRowsRead : Mechanism → List (Option BookRow) → Rows Client → Type 0
AreRowsRead k held rows = (r : ℕ) → IsRowRead k (get_or held r None) (get_or rows r None)

-- each record is in the newest version
abbrev pub AreNewest : List (Option BookRow) → Type 0
AreNewest held =
    (r : ℕ) (row : BookRow) → get_or held r None ≡ Some row → is_newest row.text ≡ true

-- where what a read gives has records, they are in the newest version
abbrev pub IsBookReadNewest : ℕ → DiskState → Type 0
IsBookReadNewest rows = OnSeen (λ s. AreNewest (stored_rows rows s))

-- the same sessions, all in the newest version
abbrev pub AreRenewed : Mechanism → List (Option BookRow) → List (Option BookRow) → Type 0
AreRenewed k was now = (rows : Rows Client) × AreRowsRead k was rows × (now ≡ stored rows)

-- Bytes with the rows that were read, or with the same sessions all in the newest version, and read
-- without damage where those were. Outside the book they are the same.
pub record IsAsReadBook (k : Mechanism) (rows : ℕ) (start : DiskState) (c : List ℕ) : Type 0 where
  pub read : List ℕ
  pub told : start.seen ≡ Some read
  pub same : (stored_rows rows c ≡ stored_rows rows read)
      ⊎ AreRenewed k (stored_rows rows read) (stored_rows rows c)
  pub undamaged : IsUndamagedBook rows read → IsUndamagedBook rows c
  pub outside : IsSameOutsideBook rows read c

-- an image of that moment, or one as what was read then
abbrev pub IsEntryOrAsReadBook : Mechanism → ℕ → DiskState → List ℕ → Type 0
IsEntryOrAsReadBook k rows start c = start.image c ⊎ IsAsReadBook k rows start c

-- what a read gave has a book of which these are the sessions
abbrev pub IsBookRead : Mechanism → ℕ → Rows Client → List ℕ → Type 0
IsBookRead k rows sessions s = (held : List (Option BookRow))
    × (book_reading (client_record_fault k) rows s ≡ has_rows held) × AreRowsRead k held sessions

-- an open book of what was read, at rest. Each image is as what was read.
pub record IsOpenedBook (k : Mechanism) (rows : ℕ) (start now : DiskState) (book : BookNow)
    : Type 0 where
  pub is_open : book.closed ≡ None
  pub places : length book.rows ≡ rows
  pub count : book.store.rows ≡ rows
  pub read : OnSeen (IsBookRead k rows book.rows) start
  pub ready : IsBookReady book now
  pub alike : Always (IsAsReadBook k rows start) now
