-- The record of a row took the place of the one before it, or did not.
use Rattle.std.proofs.Common.{Err, List, None, Ok, Option, Result, Some, ap, ap₂, get_or, subst, sym, ℕ, ◌+◌, ◌-◌, ◌<◌, ◌∙◌, ◌≡◌}
use Rattle.std.proofs.Math.ListN.{set}
use Rattle.std.proofs.lemmas.List.{get_or-set_same, set-set}
use Rattle.std.specs.Prelude.{is_some, option_map}
use Rattle.dr_disk.specs.Spans.{HavePassed, Span}
use Rattle.dr_disk.specs.State.{Always, DiskState, IsLawful}
use Rattle.book_model.proofs.Names.{same_self}
use Rattle.book_model.specs.Rows.{Row, Rows}
use Rattle.book_store.specs.Committing.{HasRows, IsOldOrNewBook, ReadsOutsideBook}
use Rattle.book_store.specs.Reading.{under as recorded}
use Rattle.book_store.specs.Shown.{BookRow, stored_rows}
use Rattle.book_store.specs.Store.{BookStore, with_row, writes_at}
use Rattle.book_store.specs.declared.errors.StoreFault.{StoreFault}
use Rattle.session_model.specs.Clients.{Client}
use Rattle.session_record.specs.Record.{record_text}
use Rattle.client.specs.Cells.{IsOldOrNewInCell, ReadsOutsideCell}
use Rattle.client.specs.Keepings.{HoldsKept, cell_of}
use Rattle.client.specs.Outcomes.{IsKeptBy, IsLostInCell, IsReplacingInCell, replacing_calls}
use Rattle.book.specs.Books.{BookNow, IsBookReady, IsStoreReady}
use Rattle.book.specs.Changing.{TakesPlaceOf, change_calls}
use Rattle.book.specs.Naming.{IsPlaceOf}
use Rattle.book.specs.RowCells.{beside, row_cell}
use Rattle.book.specs.RowKeepings.{RowNow, RowPlace, kept_of, known_name, name_of, row_keeping}
use Rattle.book.specs.Rows.{stored, stored_row}
use Rattle.book.proofs.Counted.{calls, kinds, writes}
use Rattle.book.proofs.Imaged.{RestsWithRows, cell_moment, cell_reads, cell_stopped, has_rows}
use Rattle.book.proofs.Only.{held_at, place}
use Rattle.book.proofs.Places.{IsOf, under_at, under_set, without_set}
use Rattle.book.proofs.Stored.{present, present_inside, stored_beside, stored_set, stored_under}

-- a disk at rest for a row has its record
pub row_holds : RestsWithRows → (disk : DiskState) → HoldsKept row_keeping disk
row_holds resting disk s ready c left =
    let is = present (get_or s.book.rows s.at None) ready.there in
    let book = ready.book in
    subst (λ (o : Option (Row Client)). recorded (known_name (name_of o)) (stored_rows s.book.store.rows c)
    ≡ Some (record_text (kept_of o))) (sym is.1)
    (ap (recorded is.0.name) ((has_rows resting s.book.store disk book.rests c left).are ∙ book.holds)
    ∙ stored_under is.0.name s.book.rows
    ∙ ap (option_map record_text) (under_at is.0.name s.book.rows s.at is.0
    (place s.book.rows s.book.store book.holds book.rests.marked s.at is.0 is.1) is.1))

pub same_place : (a b : RowPlace) → a.at ≡ b.at → a.rows ≡ b.rows → a.name ≡ b.name → a.others ≡ b.others
    → a ≡ b
same_place a b at rows name others =
    ap (λ i. record { at = i; rows = a.rows; name = a.name; others = a.others }) at
    ∙ ap (λ n. record { at = b.at; rows = n; name = a.name; others = a.others }) rows
    ∙ ap (λ (o : Option (List ℕ)). record { at = b.at; rows = b.rows; name = o; others = a.others }) name
    ∙ ap (λ (l : Rows Client). record { at = b.at; rows = b.rows; name = b.name; others = l }) others

module _ (resting : RestsWithRows) (old : BookNow) (at : ℕ) (row : Row Client) (after : Client)
    (start now : DiskState) (at_start : IsLawful start) (at_now : IsLawful now)
    (ready : IsBookReady old start) (here : get_or old.rows at None ≡ Some row)
    (new : BookStore) where
  abbrev pub Staged : BookStore
  Staged = with_row old.store at row.name (record_text after)

  abbrev pub Next : Row Client
  Next = record { name = row.name; kept = after }

  abbrev pub Takes : Result Unit StoreFault → Type 0
  Takes result = TakesPlaceOf (writes_at old.store at (record_text after)) Staged new old.store.held start now result

  stood : get_or old.store.held at None
      ≡ Some (record { name = row.name; text = record_text row.kept })
  stood = held_at old.rows old.store ready.holds ready.rests.marked at ∙ ap stored_row here

  first : IsPlaceOf row.name old.rows at
  first = place old.rows old.store ready.holds ready.rests.marked at row here

  held_next : Staged.held ≡ stored (set old.rows at (Some Next))
  held_next =
      ap (λ (l : List (Option BookRow)). set l at (Some (record { name = row.name; text = record_text after }))) ready.holds
      ∙ stored_set old.rows at (Some Next) (present_inside old.rows at row here)

  recorded_was : recorded row.name old.store.held ≡ Some (record_text row.kept)
  recorded_was = ap (recorded row.name) ready.holds ∙ stored_under row.name old.rows
      ∙ ap (option_map record_text) (under_at row.name old.rows at row first here)

  recorded_next : recorded row.name Staged.held ≡ Some (record_text after)
  recorded_next = ap (recorded row.name) held_next ∙ stored_under row.name (set old.rows at (Some Next))
      ∙ ap (option_map record_text) (under_set row.name old.rows at Next first (same_self row.name))

  beside_next : beside row.name Staged.held ≡ beside row.name old.store.held
  beside_next = ap (beside row.name) held_next ∙ stored_beside row.name (set old.rows at (Some Next))
      ∙ ap stored (without_set row.name old.rows at (Some Next)
      (subst (IsOf row.name) (sym here) (same_self row.name)) (same_self row.name))
      ∙ sym (stored_beside row.name old.rows) ∙ sym (ap (beside row.name) ready.holds)

  has : Always (HasRows old.store.rows old.store.held) start
  has = has_rows resting old.store start ready.rests

  replacing : Span start now (IsOldOrNewBook old.store.rows old.store.held Staged.held start)
      → IsReplacingInCell (row_cell old.store.rows row.name) row.kept after start now
  replacing span =
      subst (λ (o : Option (List ℕ)). Span start now (IsOldOrNewInCell (row_cell old.store.rows row.name) start o
      (Some (record_text after)))) recorded_was
      (subst (λ (o : Option (List ℕ)). Span start now (IsOldOrNewInCell (row_cell old.store.rows row.name) start
      (recorded row.name old.store.held) o)) recorded_next
      (cell_moment old.store.rows row.name old.store.held Staged.held beside_next start has now span))

  reads_row : Span start now (IsOldOrNewBook old.store.rows old.store.held Staged.held start)
      → ReadsOutsideBook old.store.rows start now → ReadsOutsideCell (row_cell old.store.rows row.name) start now
  reads_row span reads = cell_reads old.store.rows row.name old.store.held Staged.held beside_next start has now at_start at_now
      span reads

  calls_are : change_calls (writes_at old.store at (record_text after)) Staged ≡ replacing_calls row.kept after
  calls_are = calls old.store at row.name (record_text row.kept) (record_text after) ready.rests.marked ready.rests.dropped stood

  pub kept_by : (is : RowNow) → is.at ≡ at → is.book.store ≡ new → is.book.rows ≡ set old.rows at (Some Next)
      → Takes (Ok tt)
      → IsKeptBy row_keeping (kept_of (get_or old.rows at None)) after (record { book = old; at = at }) is start now
  kept_by is same stores rows takes = record {
    ready = record {
      book = record {
        rests = subst (λ (s : BookStore). IsStoreReady s now) (sym stores) takes.ready;
        holds = ap (λ (s : BookStore). s.held) stores ∙ ap (λ (s : BookStore). s.held) takes.next ∙ held_next
            ∙ ap stored (sym rows);
      };
      there = ap is_some there;
    };
    stays = same_place (row_keeping.place is) (row_keeping.place (record { book = old; at = at })) same
        (ap (λ (s : BookStore). s.rows) stores ∙ takes.rows) (ap name_of there ∙ sym (ap name_of here))
        (ap₂ (λ (l : Rows Client) i. set l i None) rows same ∙ set-set old.rows at (Some Next) None);
    any_moment =
        subst (λ (o : Option (Row Client)). IsReplacingInCell (row_cell old.store.rows (known_name (name_of o))) (kept_of o) after
        start now)
        (sym here) (replacing takes.any_moment);
    reads =
        subst (λ (o : Option (Row Client)). ReadsOutsideCell (row_cell old.store.rows (known_name (name_of o))) start now)
        (sym here) (reads_row takes.any_moment takes.reads);
    passed =
        subst (λ (o : Option (Row Client)). HavePassed (replacing_calls (kept_of o) after) start now) (sym here)
        (subst (λ n. HavePassed n start now) calls_are takes.went.calls.passed);
    ahead = takes.went.calls.went.ahead;
    quiet = takes.went.calls.went.quiet;
  }
    where
      there : get_or is.book.rows is.at None ≡ Some Next
      there = ap₂ (λ (l : Rows Client) i. get_or l i None) rows same
          ∙ get_or-set_same old.rows at (Some Next) None (present_inside old.rows at row here)

  pub lost_by : (fault : StoreFault) → Takes (Err fault)
      → IsLostInCell (cell_of row_keeping (record { book = old; at = at })) (kept_of (get_or old.rows at None)) after fault.call start now
  lost_by fault takes =
      subst (λ (o : Option (Row Client)). IsLostInCell (row_cell old.store.rows (known_name (name_of o))) (kept_of o) after
      fault.call start now)
      (sym here) (record {
        any_moment = replacing takes.any_moment;
        reads = reads_row takes.any_moment takes.reads;
        stopped = cell_stopped old.store.rows row.name old.store.held Staged.held (record_text row.kept) (record_text after)
            (writes_at old.store at (record_text after))
            (writes old.store at row.name (record_text row.kept) (record_text after) ready.rests.marked ready.rests.dropped stood)
            start now takes.stopped recorded_was recorded_next;
        few = λ l m was is. subst (λ n. m < l + n) calls_are (takes.went.calls.few l m was is);
        kind = λ l m was is. takes.went.kind l m was is
            ∙ kinds old.store at row.name (record_text row.kept) (record_text after) ready.rests.marked ready.rests.dropped
            stood (m - l);
        ended = takes.went.calls.went.ended;
        rose = takes.went.calls.went.fault;
      })
