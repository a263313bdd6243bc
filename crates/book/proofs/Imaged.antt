-- What images have at the row of a name, and beside it, while the row changes.
use Rattle.std.proofs.Common.{List, Option, Some, ap, inl, inr, sym, ⊎_elim, Bool, true, false, refl, ℕ, ◌-◌, ◌∙◌, ◌≡◌, ◌⊎◌}
use Rattle.std.specs.Prelude.{if◌then◌else◌}
use Rattle.dr_disk.specs.Spans.{Span}
use Rattle.dr_disk.specs.State.{Always, DiskState, IsLawful}
use Rattle.dr_disk.proofs.Steps.{widen}
use Rattle.pages.specs.Stops.{put_shows, put_took}
use Rattle.slot_store.specs.Stops.{shows, took, writes_of}
use Rattle.book_store.specs.AtRest.{BookMark, IsBookAtRest}
use Rattle.book_store.specs.Committing.{HasRows, IsBookStopped, IsOldOrNewBook, KeepsOutsideBook, ReadsOutsideBook}
use Rattle.book_store.specs.Reading.{under as recorded}
use Rattle.book_store.specs.Shown.{BookRow, stored_rows}
use Rattle.book_store.specs.Staging.{Rests}
use Rattle.book_store.specs.Store.{BookStore}
use Rattle.client.specs.Cells.{IsOldOrNewInCell, IsStoppedInCell, KeepsOutsideCell, ReadsOutsideCell}
use Rattle.book.specs.Books.{IsStoreReady}
use Rattle.book.specs.RowCells.{beside, row_cell}

-- a book at rest has its rows
abbrev pub RestsWithRows : Type 0
RestsWithRows = (rows : ℕ) (mark : BookMark) (book : List (Option BookRow)) (c : List ℕ)
    → IsBookAtRest rows mark book c → HasRows rows book c

pub has_rows : RestsWithRows → (store : BookStore) (disk : DiskState) → IsStoreReady store disk
    → Always (HasRows store.rows store.held) disk
unfolding Rests
has_rows resting store disk ready c left = resting store.rows store.mark store.held c (ready.rests c left)

module _ (rows : ℕ) (name : List ℕ) (held new : List (Option BookRow))
    (same : beside name new ≡ beside name held) (start : DiskState)
    (has : Always (HasRows rows held) start) where
  beside_is : (c : List ℕ) → HasRows rows held c ⊎ HasRows rows new c
      → beside name (stored_rows rows c) ≡ beside name held
  beside_is c either =
      ⊎_elim (λ old. ap (beside name) old.are) (λ now. ap (beside name) now.are ∙ same) either

  frame : (c : List ℕ) → HasRows rows held c ⊎ HasRows rows new c → KeepsOutsideBook rows start c
      → KeepsOutsideCell (row_cell rows name) start c
  frame c either kept = (
    kept.0,
    kept.1,
    record {
      others = beside_is c either ∙ sym (ap (beside name) (has kept.0 kept.1).are);
      outside = kept.2;
    },
  )

  to_cell : (c : List ℕ) → IsOldOrNewBook rows held new start c
      → IsOldOrNewInCell (row_cell rows name) start (recorded name held) (recorded name new) c
  to_cell c is = record {
    either = ⊎_elim (λ old. inl (ap (recorded name) old.are)) (λ now. inr (ap (recorded name) now.are)) is.either;
    undamaged = ⊎_elim (λ old. old.undamaged) (λ now. now.undamaged) is.either;
    frame = frame c is.either is.frame;
  }

  pub cell_moment : (now : DiskState) → Span start now (IsOldOrNewBook rows held new start)
      → Span start now (IsOldOrNewInCell (row_cell rows name) start (recorded name held) (recorded name new))
  cell_moment now span = widen start now (IsOldOrNewBook rows held new start)
      (IsOldOrNewInCell (row_cell rows name) start (recorded name held) (recorded name new)) to_cell span

  pub cell_reads : (now : DiskState) → IsLawful start → IsLawful now
      → Span start now (IsOldOrNewBook rows held new start) → ReadsOutsideBook rows start now
      → ReadsOutsideCell (row_cell rows name) start now
  cell_reads now at_start at_now span reads s told =
      let was = reads s told in (
        was.0,
        was.1,
        record {
          others =
              beside_is s (⊎_elim (λ left. inl (has s left)) (λ is. is.either) (span.last s (at_now.seen_now s told)))
              ∙ sym (ap (beside name) (has was.0 (at_start.seen_now was.0 was.1)).are);
          outside = was.2;
        },
      )

-- after a call that failed
module _ (rows : ℕ) (name : List ℕ) (held new : List (Option BookRow)) (old text : List ℕ) (n : ℕ)
    (writes : n ≡ writes_of (Some old) (Some text)) (start now : DiskState) where
  chosen : (t : Bool) → recorded name (if t then new else held)
      ≡ (if t then recorded name new else recorded name held)
  chosen true = refl
  chosen false = refl

  pub cell_stopped : IsBookStopped rows n held new start now
      → recorded name held ≡ Some old → recorded name new ≡ Some text
      → IsStoppedInCell (row_cell rows name) (Some old) (Some text) start now
  unfolding took shows
  cell_stopped stopped was is = record {
    crash = λ l m mode c was_l is_m told.
        ap (recorded name) (stopped.crash l m mode c was_l is_m told)
        ∙ chosen (put_took n (m - l) mode)
        ∙ ap (λ (o : Option (List ℕ)). if put_took n (m - l) mode then o else recorded name held) is
        ∙ ap (λ (o : Option (List ℕ)). if put_took n (m - l) mode then Some text else o) was
        ∙ ap (λ k. if put_took k (m - l) mode then Some text else Some old) writes;
    read = λ keeps l m s was_l is_m told.
        ap (recorded name) (stopped.read keeps l m s was_l is_m told)
        ∙ chosen (put_shows n (m - l))
        ∙ ap (λ (o : Option (List ℕ)). if put_shows n (m - l) then o else recorded name held) is
        ∙ ap (λ (o : Option (List ℕ)). if put_shows n (m - l) then Some text else o) was
        ∙ ap (λ k. if put_shows k (m - l) then Some text else Some old) writes;
  }
