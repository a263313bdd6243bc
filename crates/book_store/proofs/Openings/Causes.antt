-- Why a book's rows can't be held, and that else they can.
use Rattle.std.proofs.Common.{◌≡◌, ℕ, ◌+◌, ◌<◌, Bool, List, Option, None, Some, length, refl, ◌∙◌, subst, arith}
use Rattle.std.specs.Prelude.{if◌then◌else◌}
use Rattle.dr_base.specs.Bytes.{AreBytes}
use Rattle.dr_disk.specs.State.{DiskState, OnSeen}
use Rattle.pages.specs.Tables.{counts, open_table, tables_standing}
use Rattle.book_store.proofs.Openings.BookRead.{row_reading, table_reading}
use Rattle.book_store.proofs.Sayings.LaidTables.{laid_marks, laid_row}
use Rattle.book_store.proofs.Sayings.Said.{said_at}
use Rattle.book_store.specs.Judging.{book_fault}
use Rattle.book_store.specs.Layout.{HasBook, book_layout}
use Rattle.book_store.specs.Locating.{IsCause, table_refusal}
use Rattle.book_store.specs.RowsReading.{AreLaidRows, AreRowsRefused}
use Rattle.book_store.specs.declared.errors.BookOpenError.{BookOpenError}
use Rattle.book_store.specs.declared.errors.BookOpenError.TheVariants.{DamagedRow, DamagedTable, Memory, StoreFault}
use Rattle.book_store.specs.declared.layout.TheConstants.{BOOK_TABLE}

pub no_refusal : (second : Bool) (o : Option ℕ) → table_refusal second o ≡ None → o ≡ None
no_refusal second None is = refl
no_refusal second (Some at) is = absurd (let e : Some (DamagedTable (if second then 1 else 0) at) ≡ None = is in cc)

-- the rows of a table without a fault lie on the disk
pub laid_rows : (count : ℕ) (body : List ℕ) (disk : DiskState) → length body + 1 ≡ BOOK_TABLE → AreBytes body
    → book_fault count body ≡ None → HasBook count disk → AreLaidRows body disk
laid_rows count body disk long are none within = record {
  laid = laid_row count body long are none;
  within = λ r mark lt is.
      let here : r < count = (laid_marks count body long are none).inside r mark (said_at body r lt ∙ is) in
      omega (arith, here, within);
}

module _ (fault_at : List ℕ → Option ℕ) (count : ℕ) (second : Bool) (body : List ℕ) (disk : DiskState)
    (stands : OnSeen (λ s. tables_standing (book_layout count) s ≡ counts second (open_table body)) disk) where
  -- the table's
  pub table_cause : (error : BookOpenError) → table_refusal second (book_fault count body) ≡ Some error
      → IsCause fault_at count error disk
  table_cause error is = by (book_fault count body) refl is
    where
      by : (o : Option ℕ) → book_fault count body ≡ o → table_refusal second o ≡ Some error → IsCause fault_at count error disk
      by None fault h = absurd (let e : None ≡ Some error = h in cc)
      by (Some at) fault h = subst (λ e. IsCause fault_at count e disk) (inner (DamagedTable (if second then 1 else 0) at) error h)
          (λ s told. table_reading fault_at count second body s (stands s told) at fault)
        where
          inner : (x y : BookOpenError) → Some x ≡ Some y → x ≡ y
          inner x y e = cc

  -- a row's
  pub rows_cause : book_fault count body ≡ None → (error : BookOpenError) → AreRowsRefused fault_at body error disk
      → IsCause fault_at count error disk
  rows_cause none Memory is = tt
  rows_cause none (DamagedRow row at) is = λ s told.
      row_reading fault_at count second body s (stands s told) (record { row = row; at = at }) none (is s told)
  rows_cause none (DamagedTable table at) is = absurd is
  rows_cause none (StoreFault call) is = absurd is
