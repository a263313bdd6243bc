-- The records of a fan's sessions are staged, one after the other, and committed.
use Rattle.std.specs.Prelude.{Err, Ok, Result, Some, length, ℕ, ◌≡◌}
use Rattle.book_model.specs.Rows.{Rows}
use Rattle.book_store.specs.Committing.{KeepsRows, ReadsOutsideBook, call_of}
use Rattle.book_store.specs.Staging.{IsStagedOver}
use Rattle.book_store.specs.Store.{BookStore}
use Rattle.book_store.specs.declared.errors.StoreFault.{StoreFault}
use Rattle.dr_disk.specs.Called.{Called}
use Rattle.dr_disk.specs.Spans.{Span}
use Rattle.dr_disk.specs.State.{Always, DiskState}
use Rattle.dr_disk.specs.declared.call.Call.{Call}
use Rattle.dr_disk.specs.declared.call.Call.TheVariants.{Write}
use Rattle.kem_laws.specs.Mechanism.{Mechanism}
use Rattle.pages.specs.Runs.{FailsBy, only}
use Rattle.session_model.specs.Clients.{Client}
use Rattle.book.specs.Changing.{TakesPlaceOf}
use Rattle.book.specs.Fans.{Fan, fanned_store, fanned_writes}
use Rattle.book.specs.RowKeepings.{RowNow}

-- with other rows, or with another store
abbrev pub with_rows : RowNow → Rows Client → RowNow
with_rows row rows = record {
  book = record { rows = rows; store = row.book.store; closed = row.book.closed };
  at = row.at;
}

abbrev pub with_store : RowNow → BookStore → RowNow
with_store row store = record {
  book = record { rows = row.book.rows; store = store; closed = row.book.closed };
  at = row.at;
}

-- closed by a call on the disk that failed
abbrev pub closed_by : RowNow → Call → RowNow
closed_by row call = record {
  book = record { rows = row.book.rows; store = row.book.store; closed = Some call };
  at = row.at;
}

-- The first n are staged over the rows that stand, by as many writes as pages of them change.
pub record StagesFirst (k : Mechanism) (fan : Fan) (first : BookStore) (start now : DiskState)
    (n : ℕ) : Type 0 where
  pub over : IsStagedOver (fanned_store k fan first n) first.held now
  pub any_moment : Span start now (KeepsRows first.rows first.held start)
  pub still : Always (KeepsRows first.rows first.held start) now
  pub reads : ReadsOutsideBook first.rows start now
  pub calls : Called {T = Unit} (fanned_writes k fan first n) call_of start now (Ok tt)

-- A call on the disk failed meanwhile, a write.
pub record StagingFails (k : Mechanism) (fan : Fan) (first : BookStore) (start now : DiskState)
    (fault : StoreFault) : Type 0 where
  pub any_moment : Span start now (KeepsRows first.rows first.held start)
  pub still : Always (KeepsRows first.rows first.held start) now
  pub reads : ReadsOutsideBook first.rows start now
  pub calls : Called {T = Unit} (fanned_writes k fan first (length fan.list)) call_of start now
      (Err fault)
  pub kind : FailsBy {T = Unit} call_of (only Write) start now (Err fault)

-- all are staged, or a call failed
abbrev pub StagesFan : Mechanism → Fan → RowNow → RowNow → DiskState → DiskState
    → Result Unit StoreFault → Type 0
StagesFan k fan old new start now (Ok u) =
    (new ≡ with_store old (fanned_store k fan old.book.store (length fan.list)))
    × StagesFirst k fan old.book.store start now (length fan.list)
StagesFan k fan old new start now (Err fault) =
    (new ≡ with_store old new.book.store) × (new.book.store.rows ≡ old.book.store.rows)
    × StagingFails k fan old.book.store start now fault

-- all take the places of the records that stand, in one commit
pub record PutsFan {T : Type 0} (k : Mechanism) (fan : Fan) (old new : RowNow)
    (start now : DiskState) (result : Result T StoreFault) : Type 0 where
  pub same : new ≡ with_store old new.book.store
  pub takes : TakesPlaceOf (fanned_writes k fan old.book.store (length fan.list))
      (fanned_store k fan old.book.store (length fan.list)) new.book.store old.book.store.held
      start now result
