-- The book of the commands, and how one ends where it isn't opened or refuses.
use Rattle.std.specs.Prelude.{List, Option, ℕ, ◌≡◌}
use Rattle.dr_disk.specs.Spans.{Span}
use Rattle.dr_disk.specs.State.{DiskState, OnSeen}
use Rattle.endings.specs.declared.ending.Ending.{Ending}
use Rattle.endings.specs.declared.ending.Ending.TheVariants.{BadName, BookFull, DamagedBookRow, DamagedBookTable, DiskFault, NameTaken, NoMemory, Refused}
use Rattle.kem_laws.specs.Mechanism.{Mechanism}
use Rattle.session_model.specs.Clients.{Client}
use Rattle.session_model.specs.declared.answer.Refusal.TheVariants.{NoPair}
use Rattle.book_model.specs.Rows.{Rows, under}
use Rattle.book_store.specs.Layout.{HasBook}
use Rattle.book_store.specs.Opened.{IsBookRefused, IsLookedAt}
use Rattle.book_store.specs.declared.errors.BookOpenError.{BookOpenError}
use Rattle.book_store.specs.declared.errors.BookOpenError.TheVariants.{DamagedRow, DamagedTable, Memory as OpenMemory, StoreFault as OpenFault}
use Rattle.book_store.specs.declared.layout.TheConstants.{BOOK_ROWS}
use Rattle.client.specs.Opening.{client_record_fault}
use Rattle.book.specs.Books.{BookNow, IsBookReady}
use Rattle.book.specs.Opening.{IsAsReadBook, IsBookRead, IsEntryOrAsReadBook}
use Rattle.book.specs.declared.refusals.BookBeginError.{BookBeginError}
use Rattle.book.specs.declared.refusals.BookBeginError.TheVariants.{BadName as BeginBadName, BookFull as BeginFull, Closed as BeginClosed, Memory as BeginMemory, NameTaken as BeginTaken, NoPair as BeginNoPair, StoreFault as BeginFault}

-- the disk has room for a book
abbrev pub HasBookRoom : DiskState → Type 0
HasBookRoom disk = HasBook BOOK_ROWS disk

-- what a read gives has a book of which these are the sessions
abbrev pub ReadsSessions : Mechanism → Rows Client → DiskState → Type 0
ReadsSessions k sessions disk = OnSeen (IsBookRead k BOOK_ROWS sessions) disk

-- each image is at rest for a book that has this under the name, or nothing
pub record IsRowAtRest (name : List ℕ) (kept : Option Client) (disk : DiskState) : Type 0 where
  pub book : BookNow
  pub ready : IsBookReady book disk
  pub count : book.store.rows ≡ BOOK_ROWS
  pub there : under name book.rows ≡ kept

-- Each crash meanwhile leaves what one might have left at entry, or what is as what was read: the
-- same sessions, all as they were or all in the newest version. A read gives such.
pub record LeavesBookAsRead (k : Mechanism) (start now : DiskState) : Type 0 where
  pub any_moment : Span start now (IsEntryOrAsReadBook k BOOK_ROWS start)
  pub reads : OnSeen (IsAsReadBook k BOOK_ROWS start) now

-- why no book was opened: where memory was wanting, nothing was written
pub record IsBookUnopened (k : Mechanism) (start now : DiskState) (error : BookOpenError)
    : Type 0 where
  pub refused : IsBookRefused (client_record_fault k) BOOK_ROWS start now error
  pub memory : error ≡ OpenMemory → IsLookedAt start now

abbrev pub ending_of_open_book : BookOpenError → Ending
ending_of_open_book OpenMemory = NoMemory
ending_of_open_book (OpenFault call) = DiskFault
ending_of_open_book (DamagedTable table at) = DamagedBookTable table at
ending_of_open_book (DamagedRow row at) = DamagedBookRow row at

abbrev pub ending_of_begin_book : BookBeginError → Ending
ending_of_begin_book (BeginClosed call) = DiskFault
ending_of_begin_book BeginBadName = BadName
ending_of_begin_book BeginTaken = NameTaken
ending_of_begin_book (BeginFull rows) = BookFull rows
ending_of_begin_book BeginMemory = NoMemory
ending_of_begin_book BeginNoPair = Refused NoPair
ending_of_begin_book (BeginFault call) = DiskFault
