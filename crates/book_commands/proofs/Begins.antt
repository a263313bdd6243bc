-- A command that began a session under a name, or didn't.
use Rattle.std.proofs.Common.{Err, List, None, Ok, Result, Some, [], ap, arith, inl, refl, subst, sym, ℕ, ◌∙◌, ◌≡◌, ◌⊎◌}
use Rattle.bodies.specs.declared.format.Format.{Format}
use Rattle.dr_base.specs.Causes.{Rose}
use Rattle.dr_disk.specs.Spans.{IsQuiet, Span}
use Rattle.dr_disk.specs.State.{DiskState, IsLawful, OnSeen}
use Rattle.dr_disk.specs.declared.call.Call.{Call}
use Rattle.dr_disk.proofs.Steps.{quiet_twice}
use Rattle.dr_model.specs.Conversations.Formats.{formats_of}
use Rattle.dr_model.specs.Machines.WorldSides.{kept_in}
use Rattle.dr_model.specs.Machines.Worlds.{opening_world}
use Rattle.dr_model.specs.Theorems.Following.{Follows}
use Rattle.endings.specs.declared.ending.Ending.{Ending}
use Rattle.endings.specs.declared.ending.Ending.TheVariants.{DiskFault, Done}
use Rattle.kem_laws.specs.Mechanism.{Mechanism}
use Rattle.session_model.specs.Schedule.{session_of}
use Rattle.session_record.specs.Record.{record_text}
use Rattle.book_model.specs.Rows.{begun, under}
use Rattle.book_store.specs.Committing.{IsOldOrNewBook}
use Rattle.book_store.specs.Reading.{under as recorded}
use Rattle.book_store.specs.Store.{with_row, writes_at}
use Rattle.book_store.specs.declared.errors.BookOpenError.{BookOpenError}
use Rattle.book_store.specs.declared.errors.StoreFault.{StoreFault}
use Rattle.book_store.specs.declared.layout.TheConstants.{BOOK_ROWS}
use Rattle.client.specs.Beginning.{HasPair, begun_client}
use Rattle.client.specs.Grounds.{ReadsWritten}
use Rattle.client.specs.declared.begin.Begin.{Begin}
use Rattle.book.proofs.Imaged.{RestsWithRows}
use Rattle.book.specs.Beginning.{BeginsIn, ChangesBook, HasPlaceFor}
use Rattle.book.specs.Books.{BookNow}
use Rattle.book.specs.RowCells.{beside}
use Rattle.book.specs.Opening.{IsAsReadBook, IsEntryOrAsReadBook, IsOpenedBook}
use Rattle.book.specs.declared.refusals.BookBeginError.{BookBeginError}
use Rattle.book.specs.declared.refusals.BookBeginError.TheVariants.{BadName, BookFull, Closed, Memory, NameTaken, NoPair, StoreFault as Faulted}
use Rattle.command_lines.specs.Lines.{session_line}
use Rattle.book_commands.specs.Beginning.{BeginsUnder, BegunUnder, IsCause, IsFirstUnder, was_begun, was_cut, wasnt_begun, wasnt_opened}
use Rattle.book_commands.specs.Opening.{IsBookUnopened, IsRowAtRest, ending_of_begin_book, ending_of_open_book}
use Rattle.book_commands.proofs.Changed.{HasChanged, changed_moment, changed_reads, only_opened}
use Rattle.book_commands.proofs.Firsts.{begun_under, first_beside, first_recorded, kept_at, place_among, with_first, worlds_stay}
use Rattle.book_commands.proofs.Reading.{reads_none}

-- what was begun, with what is left
begins_by : {X : Type 0} (state : X → DiskState) (k : Mechanism) → ReadsWritten k → (name : List ℕ) (begin : Begin) (start now : X)
    (ending : Ending) (lines : List ℕ) → BegunUnder state k name begin start now ending lines
    → Span (state start) (state now)
    (λ c. (state start).image c ⊎ IsAsReadBook k BOOK_ROWS (state start) c ⊎ IsFirstUnder k name begin (state start) c)
    → OnSeen (λ s. IsAsReadBook k BOOK_ROWS (state start) s ⊎ IsFirstUnder k name begin (state start) s) (state now)
    → BeginsUnder state k name begin start now ending lines
begins_by state k written name begin start now ending lines begun span seen = record {
  begun = begun;
  any_moment = span;
  reads = seen;
  in_worlds = worlds_stay k written name begin (state start) (state now) span seen;
}

module _ {X : Type 0} (state : X → DiskState) (k : Mechanism) (written : ReadsWritten k) (name : List ℕ) (begin : Begin) (start mid : X)
    (opening : Span (state start) (state mid) (IsEntryOrAsReadBook k BOOK_ROWS (state start)))
    (seen : OnSeen (IsAsReadBook k BOOK_ROWS (state start)) (state mid)) where
  -- where the book was only opened
  opened_by : (ending : Ending) → BegunUnder state k name begin start mid ending []
      → BeginsUnder state k name begin start mid ending []
  opened_by ending begun =
      begins_by state k written name begin start mid ending [] begun
      (only_opened k (state start) (state mid) (IsFirstUnder k name begin (state start)) opening) (λ s told. inl (seen s told))

  pub unopened_begins : (error : BookOpenError) → IsBookUnopened k (state start) (state mid) error
      → BeginsUnder state k name begin start mid (ending_of_open_book error) []
  unopened_begins error why =
      opened_by (ending_of_open_book error) (wasnt_opened error why (record { any_moment = opening; reads = seen }))

  module _ (book : BookNow) (opened : IsOpenedBook k BOOK_ROWS (state start) (state mid) book)
      (quiet : IsQuiet (state start) (state mid)) where
    refuses : (error : BookBeginError) → IsCause k name begin book.rows error → (now : X) → now ≡ mid
        → BeginsUnder state k name begin start now (ending_of_begin_book error) []
    refuses error cause now same =
        subst (λ x. BeginsUnder state k name begin start x (ending_of_begin_book error) []) (sym same)
        (opened_by (ending_of_begin_book error)
        (wasnt_begun book.rows error opened.read cause (record { any_moment = opening; reads = seen })
        (record { book = book; ready = opened.ready; count = opened.count; there = refl }) quiet))

    module _ (resting : RestsWithRows) (follows : Follows k) (now : X) (lawful : IsLawful (state now)) (after : BookNow) where
      module _ (at : ℕ) (place : HasPlaceFor name book at) (pair : HasPair k begin) where
        abbrev Puts : Result Unit StoreFault → Type 0
        Puts result = ChangesBook (writes_at book.store at (record_text (begun_client k begin)))
            (with_row book.store at name (record_text (begun_client k begin)))
            (begun name (begun_client k begin) book.rows) book after (state mid) (state now) result

        beside_is : beside name (with_first k name begin book opened.ready.holds at place) ≡ beside name book.store.held
        beside_is = first_beside k name begin book opened.ready.holds at place

        first : (c : List ℕ)
            → HasChanged resting k name (state start) (state mid) (state now) book opened
            (with_first k name begin book opened.ready.holds at place) beside_is c
            → IsFirstUnder k name begin (state start) c
        first c has = record {
          none = λ s told. reads_none k name book.rows s (opened.read s told) place.fresh;
          pair = pair;
          holds = ap (recorded name) has.0.are ∙ first_recorded k name begin book opened.ready.holds at place;
          undamaged = has.0.undamaged;
          sound = has.1;
        }

        changing : (result : Result Unit StoreFault) → Puts result
            → Span (state mid) (state now) (IsOldOrNewBook BOOK_ROWS book.store.held
            (with_first k name begin book opened.ready.holds at place) (state mid))
        changing result puts =
            subst (λ n. Span (state mid) (state now) (IsOldOrNewBook n book.store.held
            (with_first k name begin book opened.ready.holds at place) (state mid))) opened.count puts.takes.any_moment

        put_by : (result : Result Unit StoreFault) → Puts result → (ending : Ending) (lines : List ℕ)
            → BegunUnder state k name begin start now ending lines → BeginsUnder state k name begin start now ending lines
        put_by result puts ending lines begun =
            begins_by state k written name begin start now ending lines begun
            (changed_moment resting k name (state start) (state mid) (state now) book opened
            (with_first k name begin book opened.ready.holds at place) beside_is (IsFirstUnder k name begin (state start)) first
            (changing result puts) opening)
            (changed_reads resting k name (state start) (state mid) (state now) book opened
            (with_first k name begin book opened.ready.holds at place) beside_is (IsFirstUnder k name begin (state start)) first
            (changing result puts) lawful)

        pub under_after : Puts (Ok tt) → under name after.rows ≡ Some (begun_client k begin)
        under_after puts = ap (under name) puts.rows ∙ begun_under k name begin book opened.ready.holds at place

        rests_for : Puts (Ok tt) → (other : Format)
            → IsRowAtRest name (Some (kept_in k (opening_world begin.key.bytes (formats_of begin.side begin.format other)) begin.side))
            (state now)
        rests_for puts other = record {
          book = after;
          ready = puts.ready;
          count = ap (λ s. s.rows) puts.takes.next ∙ opened.count;
          there = under_after puts ∙ ap Some (kept_at k begin.key.bytes begin.side begin.format other);
        }

        pub put : Puts (Ok tt) → BeginsUnder state k name begin start now Done (session_line (session_of begin.key.bytes))
        put puts = put_by (Ok tt) puts Done (session_line (session_of begin.key.bytes))
            (was_begun book.rows opened.read (place_among name book at place) pair
            (λ other. record {
              lawful = follows.lawful_opening begin.key.bytes (formats_of begin.side begin.format other) pair;
              rests = rests_for puts other;
            })
            (quiet_twice (state start) (state mid) (state now) quiet puts.takes.went.calls.went.quiet))

        pub put_cut : (call : Call) → Puts (Err (record { call = call })) → BeginsUnder state k name begin start now DiskFault []
        put_cut call puts = put_by (Err (record { call = call })) puts DiskFault []
            (was_cut book.rows call opened.read (place_among name book at place) pair
            (let rose : Rose ((state mid).faults call) ((state now).faults call) = puts.takes.went.calls.went.fault in
            omega (arith, rose, quiet call)))

      pub refused : (error : BookBeginError) → BeginsIn state k name begin book after mid now (Err error)
          → BeginsUnder state k name begin start now (ending_of_begin_book error) []
      refused (Faulted call) why = put_cut why.0 why.1 why.2 call why.3
      refused (Closed call) why = absurd (let e : None ≡ Some call = sym opened.is_open ∙ why.0 in cc)
      refused BadName why = refuses BadName why.1 now why.2.1
      refused NameTaken why = refuses NameTaken (why.1, why.2) now why.3.1
      refused (BookFull rows) why = refuses (BookFull rows) (why.1, why.2, why.3, why.4 ∙ opened.places) now why.5.1
      refused Memory why = refuses Memory (place_among name book why.0.0 why.0.1) now why.1.1
      refused NoPair why = refuses NoPair (place_among name book why.0.0 why.0.1, why.1) now why.2.1

      pub begun_runs : BeginsIn state k name begin book after mid now (Ok tt)
          → BeginsUnder state k name begin start now Done (session_line (session_of begin.key.bytes))
      begun_runs is = put is.0 is.1 is.2 is.3

      pub begun_is_there : BeginsIn state k name begin book after mid now (Ok tt) → under name after.rows ≡ Some (begun_client k begin)
      begun_is_there is = under_after is.0 is.1 is.2 is.3
