-- A command that forgot the session of a name, or didn't.
use Rattle.std.proofs.Common.{Err, List, None, Ok, Option, Result, Some, [], ap, arith, get_or, inl, length, subst, sym, ℕ, ◌<◌, ◌∙◌, ◌≡◌}
use Rattle.std.proofs.Math.ListN.{set}
use Rattle.std.specs.Prelude.{IsSome, is_some, option_map}
use Rattle.std.specs.Str.{bytes_eq}
use Rattle.dr_base.specs.Causes.{Rose}
use Rattle.dr_disk.specs.Spans.{IsQuiet, Span}
use Rattle.dr_disk.specs.State.{DiskState, IsLawful, OnSeen}
use Rattle.dr_disk.specs.declared.call.Call.{Call}
use Rattle.dr_disk.proofs.Steps.{quiet_twice}
use Rattle.endings.specs.declared.ending.Ending.TheVariants.{DiskFault}
use Rattle.kem_laws.specs.Mechanism.{Mechanism}
use Rattle.session_model.specs.Clients.{Client}
use Rattle.session_record.specs.Record.{record_text}
use Rattle.book_model.proofs.Names.{same_self, without_same}
use Rattle.book_model.specs.Rows.{Row, Rows, under, without}
use Rattle.book_store.specs.Committing.{IsOldOrNewBook}
use Rattle.book_store.specs.Reading.{under as recorded}
use Rattle.book_store.specs.Shown.{BookRow}
use Rattle.book_store.specs.Store.{without_row}
use Rattle.book_store.specs.declared.errors.BookOpenError.{BookOpenError}
use Rattle.book_store.specs.declared.errors.StoreFault.{StoreFault}
use Rattle.book_store.specs.declared.layout.TheConstants.{BOOK_ROWS}
use Rattle.client.specs.Grounds.{ReadsWritten}
use Rattle.book.proofs.Imaged.{RestsWithRows}
use Rattle.book.proofs.Only.{only}
use Rattle.book.proofs.Places.{IsOf, IsOnly, under_at, without_is}
use Rattle.book.proofs.Stored.{present_inside, stored_set, stored_under}
use Rattle.book.specs.Beginning.{ChangesBook}
use Rattle.book.specs.Books.{BookNow}
use Rattle.book.specs.Forgetting.{ForgetsIn}
use Rattle.book.specs.Naming.{IsPlaceOf}
use Rattle.book.specs.Opening.{IsAsReadBook, IsEntryOrAsReadBook, IsOpenedBook}
use Rattle.book.specs.RowCells.{beside}
use Rattle.book.specs.declared.refusals.ForgetError.{ForgetError}
use Rattle.book.specs.declared.refusals.ForgetError.TheVariants.{Closed, NoName as Nobody, StoreFault as Faulted}
use Rattle.book_commands.specs.Forgetting.{IsForgotten, RunsForget, forgot_ending, forgot_lines, forgotten_under, was_cut, was_forgotten, wasnt_found}
use Rattle.book_commands.specs.Opening.{IsBookUnopened, ending_of_open_book}
use Rattle.book_commands.specs.Places.{has_no_row, not_opened}
use Rattle.book_commands.proofs.Changed.{HasChanged, beside_set, changed_moment, changed_reads, only_opened}
use Rattle.book_commands.proofs.Fitting.{row_of}
use Rattle.book_commands.proofs.Opened.{nameless}

-- no book was opened
pub unopened_forgets : {X : Type 0} (state : X → DiskState) (k : Mechanism) (name : List ℕ) (start now : X)
    → Span (state start) (state now) (IsEntryOrAsReadBook k BOOK_ROWS (state start))
    → OnSeen (IsAsReadBook k BOOK_ROWS (state start)) (state now)
    → (error : BookOpenError) → IsBookUnopened k (state start) (state now) error
    → RunsForget state k name start now (ending_of_open_book error) []
unopened_forgets state k name start now opening seen error why = record {
  forgot = wasnt_found (not_opened error) why (record { any_moment = opening; reads = seen });
  any_moment = only_opened k (state start) (state now) (IsForgotten k name (state start)) opening;
  reads = λ s told. inl (seen s told);
}

module _ {X : Type 0} (resting : RestsWithRows) (state : X → DiskState) (k : Mechanism) (written : ReadsWritten k) (name : List ℕ)
    (start mid now : X) (lawful : IsLawful (state now)) (book after : BookNow)
    (opened : IsOpenedBook k BOOK_ROWS (state start) (state mid) book) (quiet : IsQuiet (state start) (state mid))
    (opening : Span (state start) (state mid) (IsEntryOrAsReadBook k BOOK_ROWS (state start)))
    (seen : OnSeen (IsAsReadBook k BOOK_ROWS (state start)) (state mid)) where
  -- no row has the name
  nobody : under name book.rows ≡ None → RunsForget state k name start mid (forgot_ending (forgotten_under (Err Nobody))) []
  nobody none = record {
    forgot = wasnt_found has_no_row (nameless state k written name start mid opening seen book opened quiet none)
        (record { any_moment = opening; reads = seen });
    any_moment = only_opened k (state start) (state mid) (IsForgotten k name (state start)) opening;
    reads = λ s told. inl (seen s told);
  }

  module _ (at : ℕ) (is : IsPlaceOf name book.rows at) where
    here : (row : Row Client) × (get_or book.rows at None ≡ Some row) × (row.name ≡ name)
    here = row_of name (get_or book.rows at None) is.named

    there : IsSome (under name book.rows)
    there = ap is_some (under_at name book.rows at here.0 is here.1)

    inside : at < length book.rows
    inside = present_inside book.rows at here.0 here.1

    alone : IsOnly name book.rows at here.0
    alone = subst (λ (n : List ℕ). IsOnly n book.rows at here.0) here.2
        (only book.rows book.store opened.ready.holds opened.ready.rests.marked at here.0 here.1)

    abbrev next : List (Option BookRow)
    next = (without_row book.store at).held

    beside_is : beside name next ≡ beside name book.store.held
    beside_is = beside_set name book.rows book.store.held at None opened.ready.holds inside
        (subst (IsOf name) (sym here.1) (ap (λ (n : List ℕ). bytes_eq n name) here.2 ∙ same_self name)) tt

    -- no row of the name is left
    none_in : recorded name next ≡ None
    none_in =
        ap (λ (l : List (Option BookRow)). recorded name (set l at None)) opened.ready.holds
        ∙ ap (recorded name) (stored_set book.rows at None inside)
        ∙ stored_under name (set book.rows at None)
        ∙ ap (λ (l : Rows Client). option_map record_text (under name l)) (sym (without_is name book.rows at here.0 alone))
        ∙ ap (option_map record_text) (without_same name book.rows)

    forgotten : (c : List ℕ) → HasChanged resting k name (state start) (state mid) (state now) book opened next beside_is c
        → IsForgotten k name (state start) c
    forgotten c has = record { none = ap (recorded name) has.0.are ∙ none_in; undamaged = has.0.undamaged; sound = has.1 }

    abbrev Changing : Type 0
    Changing = Span (state mid) (state now) (IsOldOrNewBook BOOK_ROWS book.store.held next (state mid))

    changing : (result : Result Unit StoreFault)
        → ChangesBook 0 (without_row book.store at) (without name book.rows) book after (state mid) (state now) result → Changing
    changing result change =
        subst (λ n. Span (state mid) (state now) (IsOldOrNewBook n book.store.held next (state mid))) opened.count change.takes.any_moment

    pub cleared : ChangesBook {T = Unit} 0 (without_row book.store at) (without name book.rows) book after (state mid) (state now) (Ok tt)
        → RunsForget state k name start now (forgot_ending (forgotten_under (Ok tt))) (forgot_lines name (forgotten_under (Ok tt)))
    cleared change = record {
      forgot = was_forgotten book.rows opened.read there
          (record {
            book = after;
            ready = change.ready;
            count = ap (λ s. s.rows) change.takes.next ∙ opened.count;
            there = ap (under name) change.rows ∙ without_same name book.rows;
          })
          (quiet_twice (state start) (state mid) (state now) quiet change.takes.went.calls.went.quiet);
      any_moment = changed_moment resting k name (state start) (state mid) (state now) book opened next beside_is
          (IsForgotten k name (state start)) forgotten (changing (Ok tt) change) opening;
      reads = changed_reads resting k name (state start) (state mid) (state now) book opened next beside_is
          (IsForgotten k name (state start)) forgotten (changing (Ok tt) change) lawful;
    }

    pub cut : (call : Call)
        → ChangesBook {T = Unit} 0 (without_row book.store at) (without name book.rows) book after (state mid) (state now)
        (Err (record { call = call }))
        → RunsForget state k name start now DiskFault []
    cut call change = record {
      forgot = was_cut book.rows call opened.read there
          (let rose : Rose ((state mid).faults call) ((state now).faults call) = change.takes.went.calls.went.fault in
          omega (arith, rose, quiet call));
      any_moment = changed_moment resting k name (state start) (state mid) (state now) book opened next beside_is
          (IsForgotten k name (state start)) forgotten (changing (Err (record { call = call })) change) opening;
      reads = changed_reads resting k name (state start) (state mid) (state now) book opened next beside_is
          (IsForgotten k name (state start)) forgotten (changing (Err (record { call = call })) change) lawful;
    }

  pub forgets : (result : Result Unit ForgetError) → ForgetsIn state name book after mid now result
      → RunsForget state k name start now (forgot_ending (forgotten_under result)) (forgot_lines name (forgotten_under result))
  forgets (Ok u) clears = cleared clears.1.0 clears.1.1 clears.1.2
  forgets (Err (Faulted call)) clears = cut clears.1.0 clears.1.1 call clears.1.2
  forgets (Err (Closed call)) shut = absurd (let e : None ≡ Some call = sym opened.is_open ∙ shut.0 in cc)
  forgets (Err Nobody) none =
      subst (λ x. RunsForget state k name start x (forgot_ending (forgotten_under (Err Nobody))) []) (sym none.2.1) (nobody none.1)
