-- What contracts see of a book, and a disk that is at rest for it.
use Rattle.std.specs.Prelude.{None, Option, [], false, replicate, ◌≡◌, ◌≤◌}
use Rattle.book_model.specs.Rows.{Rows}
use Rattle.book_store.specs.AtRest.{IsBookMarked}
use Rattle.book_store.specs.Layout.{HasBook}
use Rattle.book_store.specs.Staging.{Rests}
use Rattle.book_store.specs.Store.{BookStore}
use Rattle.book_store.specs.declared.layout.TheConstants.{BOOK_ROWS}
use Rattle.dr_disk.specs.State.{Always, DiskState}
use Rattle.dr_disk.specs.declared.call.Call.{Call}
use Rattle.session_model.specs.Clients.{Client}
use Rattle.book.specs.Rows.{stored}

pub record BookNow : Type 0 where
  -- its sessions under their names, with a place for each row that it may have
  pub rows : Rows Client
  pub store : BookStore
  -- the call on the disk that closed it
  pub closed : Option Call

-- the disk is at rest for a store of which no row is staged
pub record IsStoreReady (store : BookStore) (disk : DiskState) : Type 0 where
  pub few : store.rows ≤ BOOK_ROWS
  pub within : HasBook store.rows disk
  pub unstaged : store.staged ≡ replicate BOOK_ROWS false
  pub dropped : store.drops ≡ replicate BOOK_ROWS []
  pub marked : IsBookMarked store.rows store.mark store.held
  pub rests : Always (Rests store) disk

-- and the store's rows are the book's
pub record IsBookReady (book : BookNow) (disk : DiskState) : Type 0 where
  pub rests : IsStoreReady book.store disk
  pub holds : book.store.held ≡ stored book.rows

-- an open book, whose disk is at rest for it
abbrev pub IsBookOpen : BookNow → DiskState → Type 0
IsBookOpen book disk = (book.closed ≡ None) × IsBookReady book disk

-- where a book is open, this disk is at rest for it
abbrev pub MayBookAct : BookNow → DiskState → Type 0
MayBookAct book disk = book.closed ≡ None → IsBookReady book disk
