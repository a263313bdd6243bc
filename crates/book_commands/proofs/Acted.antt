-- A command that called an opened book under a name.
use Rattle.std.proofs.Common.{Err, List, None, Ok, Result, Some, [], refl, subst, sym, ℕ, ◌∙◌, ◌≡◌}
use Rattle.dr_base.specs.declared.position.Position.{Position}
use Rattle.dr_base.specs.declared.position.Side.{Side}
use Rattle.dr_disk.specs.Spans.{IsQuiet, Span}
use Rattle.dr_disk.specs.State.{DiskState, IsLawful, OnSeen}
use Rattle.dr_disk.specs.declared.call.Call.{Call}
use Rattle.dr_model.specs.Machines.Acts.{Act, taking}
use Rattle.dr_model.specs.Machines.Worlds.{World}
use Rattle.dr_model.specs.Theorems.Acting.{IsFairAct}
use Rattle.dr_ports.specs.States.{DrawsState}
use Rattle.endings.specs.declared.ending.Ending.TheVariants.{NoName}
use Rattle.kem_laws.specs.Mechanism.{Mechanism}
use Rattle.session_model.specs.Contents.{text_content}
use Rattle.session_model.specs.declared.answer.Answer.{Answer}
use Rattle.book_model.specs.Rows.{under}
use Rattle.book_store.specs.declared.layout.TheConstants.{BOOK_ROWS}
use Rattle.client.specs.Grounds.{ReadsWritten}
use Rattle.client.specs.Outcomes.{dropped_as, said_as, taken_as}
use Rattle.client.specs.declared.refusals.DropRefusal.{DropRefusal}
use Rattle.client.specs.declared.refusals.SayRefusal.{SayRefusal}
use Rattle.client.specs.declared.refusals.TakeRefusal.{TakeRefusal}
use Rattle.book.specs.Books.{BookNow}
use Rattle.book.specs.Calling.{IsCallOn, RowDrops, RowSays, RowTakes, row_in}
use Rattle.book.specs.Naming.{IsPlaceOf}
use Rattle.book.specs.Opening.{IsAsReadBook, IsEntryOrAsReadBook, IsOpenedBook}
use Rattle.book.specs.RowKeepings.{row_keeping}
use Rattle.book.specs.declared.refusals.BookRefusal.{BookRefusal}
use Rattle.book.specs.declared.refusals.BookRefusal.TheVariants.{Closed, NoName as Nobody, Of}
use Rattle.command_lines.proofs.Acts.{act_runs}
use Rattle.command_lines.proofs.Says.{say_runs}
use Rattle.command_lines.specs.Acting.{ClientAsk}
use Rattle.command_lines.specs.Asking.{asked_drop, asked_say, asked_take}
use Rattle.command_lines.specs.Closing.{ending_by, lines_of_ending, worked_as}
use Rattle.command_lines.specs.InWorlds.{RunsActAt}
use Rattle.book_commands.specs.Calling.{worked_under}
use Rattle.book_commands.specs.Places.{name_place}
use Rattle.book_commands.proofs.Fitting.{row_fits, row_opened}
use Rattle.book_commands.proofs.Opened.{nameless_acts, row_opening, row_opens}

module _ {X : Type 0} (state : X → DiskState) (k : Mechanism) (written : ReadsWritten k) (name : List ℕ) (start mid now : X)
    (lawful : IsLawful (state now)) (book after : BookNow) (opened : IsOpenedBook k BOOK_ROWS (state start) (state mid) book)
    (quiet : IsQuiet (state start) (state mid))
    (opening : Span (state start) (state mid) (IsEntryOrAsReadBook k BOOK_ROWS (state start)))
    (seen : OnSeen (IsAsReadBook k BOOK_ROWS (state start)) (state mid)) where
  -- no row has the name, and no call was made after the opening
  nobody : (asked : ClientAsk) → asked.idle → under name book.rows ≡ None → now ≡ mid
      → RunsActAt (name_place k name) state k asked start now NoName []
  nobody asked idle none same =
      subst (λ x. RunsActAt (name_place k name) state k asked start x NoName []) (sym same)
      (nameless_acts state k written name start mid opening seen book opened quiet none asked idle)

  never_closed : {A : Type 0} {call : Call} → book.closed ≡ Some call → A
  never_closed {call = call} is = absurd (let e : None ≡ Some call = sym opened.is_open ∙ is in cc)

  module _ (packet : List ℕ) where
    abbrev Took : Result Position (BookRefusal TakeRefusal) → Type 0
    Took result = RunsActAt (name_place k name) state k (asked_take k packet) start now
        (ending_by (worked_under taken_as result)) (lines_of_ending (worked_under taken_as result))

    takes_at : (at : ℕ) → IsPlaceOf name book.rows at → (result : Result Position TakeRefusal)
        → RowTakes state k packet (row_in book at) (row_in after at) mid now result
        → RunsActAt (name_place k name) state k (asked_take k packet) start now
        (ending_by (worked_as (taken_as result))) (lines_of_ending (worked_as (taken_as result)))
    takes_at at is result takes =
        act_runs (name_place k name) row_keeping state k start mid now lawful (row_in book at) (row_in after at)
        (row_fits k name book opened.count at is) (row_opened k name book opened.count at is (state start) (state mid) opened quiet)
        (row_opening state k written name start mid opening seen) (asked_take k packet) (taking packet) refl (λ w side fair. fair)
        (taken_as result) takes.exact (row_opens state k written name start mid opening seen book opened quiet at is) takes.in_worlds

    pub took : (result : Result Position (BookRefusal TakeRefusal))
        → IsCallOn book name ((after ≡ book) × (now ≡ mid))
        (λ at. RowTakes state k packet (row_in book at) (row_in after at) mid now) result
        → Took result
    took (Ok v) call = takes_at call.1.0 call.1.1 (Ok v) call.1.2
    took (Err (Of e)) call = takes_at call.1.0 call.1.1 (Err e) call.1.2
    took (Err Nobody) call = nobody (asked_take k packet) tt call.1 call.2.1
    took (Err (Closed by)) call = never_closed call.0

  module _ (act : Act) (answer : Answer) where
    drops_at : (at : ℕ) → IsPlaceOf name book.rows at → (result : Result Unit DropRefusal)
        → RowDrops state k act (dropped_as answer) (row_in book at) (row_in after at) mid now result
        → ((w : World) (side : Side) → IsFairAct k w side act)
        → RunsActAt (name_place k name) state k (asked_drop act) start now
        (ending_by (worked_as (dropped_as answer result))) (lines_of_ending (worked_as (dropped_as answer result)))
    drops_at at is result drops fair =
        act_runs (name_place k name) row_keeping state k start mid now lawful (row_in book at) (row_in after at)
        (row_fits k name book opened.count at is) (row_opened k name book opened.count at is (state start) (state mid) opened quiet)
        (row_opening state k written name start mid opening seen) (asked_drop act) act refl (λ w side idle. fair w side)
        (dropped_as answer result) drops.exact (row_opens state k written name start mid opening seen book opened quiet at is)
        (λ w side in_it idle. drops.in_worlds w side in_it)

    pub dropped : ((w : World) (side : Side) → IsFairAct k w side act) → (result : Result Unit (BookRefusal DropRefusal))
        → IsCallOn book name ((after ≡ book) × (now ≡ mid))
        (λ at. RowDrops state k act (dropped_as answer) (row_in book at) (row_in after at) mid now) result
        → RunsActAt (name_place k name) state k (asked_drop act) start now
        (ending_by (worked_under (dropped_as answer) result)) (lines_of_ending (worked_under (dropped_as answer) result))
    dropped fair (Ok v) call = drops_at call.1.0 call.1.1 (Ok v) call.1.2 fair
    dropped fair (Err (Of e)) call = drops_at call.1.0 call.1.1 (Err e) call.1.2 fair
    dropped fair (Err Nobody) call = nobody (asked_drop act) tt call.1 call.2.1
    dropped fair (Err (Closed by)) call = never_closed call.0

  module _ {W : Type 0} (draws : W → DrawsState) (text : List ℕ) (source left : W) where
    says_at : (at : ℕ) → IsPlaceOf name book.rows at → (result : Result Position SayRefusal)
        → RowSays state draws k text (row_in book at) (row_in after at) mid now source left result
        → RunsActAt (name_place k name) state k (asked_say draws text source left) start now
        (ending_by (worked_as (said_as result))) (lines_of_ending (worked_as (said_as result)))
    says_at at is result says =
        say_runs (name_place k name) row_keeping state draws k (text_content text) source left start mid now lawful (row_in book at) (row_in after at)
        (row_fits k name book opened.count at is) (row_opened k name book opened.count at is (state start) (state mid) opened quiet)
        (row_opening state k written name start mid opening seen) result says.exact
        (row_opens state k written name start mid opening seen book opened quiet at is) says.in_worlds

    pub said : (result : Result Position (BookRefusal SayRefusal))
        → IsCallOn book name ((after ≡ book) × (now ≡ mid) × (left ≡ source))
        (λ at. RowSays state draws k text (row_in book at) (row_in after at) mid now source left) result
        → RunsActAt (name_place k name) state k (asked_say draws text source left) start now
        (ending_by (worked_under said_as result)) (lines_of_ending (worked_under said_as result))
    said (Ok v) call = says_at call.1.0 call.1.1 (Ok v) call.1.2
    said (Err (Of e)) call = says_at call.1.0 call.1.1 (Err e) call.1.2
    said (Err Nobody) call = nobody (asked_say draws text source left) call.2.2 call.1 call.2.1
    said (Err (Closed by)) call = never_closed call.0
