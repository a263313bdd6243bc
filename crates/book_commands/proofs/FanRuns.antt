-- A command that said a text under several names, or under none.
use Rattle.std.proofs.Common.{Err, List, None, Ok, Result, Some, [], arith, length, refl, subst, sym, ℕ, ◌∙◌, ◌≡◌}
use Rattle.dr_base.specs.Causes.{Rose}
use Rattle.dr_disk.specs.Spans.{IsQuiet, Span}
use Rattle.dr_disk.specs.State.{DiskState, IsLawful, OnSeen}
use Rattle.dr_disk.proofs.Steps.{quiet_twice}
use Rattle.dr_ports.specs.States.{DrawsState}
use Rattle.endings.specs.declared.ending.Ending.{Ending}
use Rattle.endings.specs.declared.ending.Ending.TheVariants.{Done}
use Rattle.kem_laws.specs.Mechanism.{Mechanism}
use Rattle.session_model.specs.Clients.{Client}
use Rattle.book_model.specs.Rows.{Rows}
use Rattle.book_store.specs.declared.layout.TheConstants.{BOOK_ROWS}
use Rattle.book.proofs.Imaged.{RestsWithRows}
use Rattle.book.specs.Books.{BookNow}
use Rattle.book.specs.Fanning.{FansIn}
use Rattle.book.specs.Fans.{fan_of}
use Rattle.book.specs.Opening.{IsAsReadBook, IsEntryOrAsReadBook, IsOpenedBook}
use Rattle.book.specs.declared.fans.list.FanAddError.{FanAddError}
use Rattle.book.specs.declared.refusals.FanRefusal.{FanRefusal}
use Rattle.book.specs.declared.refusals.FanRefusal.TheVariants.{Closed, Nobody, Peer, StoreFault as Faulted}
use Rattle.book_commands.specs.FanEndings.{ending_of_add, ending_of_fan}
use Rattle.book_commands.specs.FanLines.{said_lines}
use Rattle.book_commands.specs.Fanning.{AddsInTurn, FansOn, IsOpenedFor, RunsFan, had_no_name, was_cut, was_fanned, was_opened, was_refused, wasnt_added}
use Rattle.book_commands.proofs.FanAdded.{none_named}
use Rattle.book_commands.proofs.FanChanged.{says_all_or_none}

-- how it closes, and its lines, by what came of the fan
abbrev pub fan_ending : Rows Client → List ℕ → Result Unit FanRefusal → Ending
fan_ending sessions list (Ok u) = Done
fan_ending sessions list (Err refusal) = ending_of_fan sessions list refusal

abbrev pub fan_lines : Rows Client → List (List ℕ) → List ℕ → Result Unit FanRefusal → List ℕ
fan_lines sessions names list (Ok u) = said_lines sessions names list (length names)
fan_lines sessions names list (Err refusal) = []

module _ {X W : Type 0} (state : X → DiskState) (draws : W → DrawsState) (k : Mechanism) (text : List ℕ)
    (names : List (List ℕ)) (start mid : X) (book : BookNow)
    (opened : IsOpenedBook k BOOK_ROWS (state start) (state mid) book) (quiet : IsQuiet (state start) (state mid))
    (opening : Span (state start) (state mid) (IsEntryOrAsReadBook k BOOK_ROWS (state start)))
    (seen : OnSeen (IsAsReadBook k BOOK_ROWS (state start)) (state mid)) (source : W) where
  is_opened : IsOpenedFor state k book.rows start mid
  is_opened = record {
    read = opened.read;
    leaves = record { any_moment = opening; reads = seen };
    images = opened.alike;
    rests = record { book = book; rows = refl; ready = opened.ready };
    quiet = quiet;
  }

  -- a name wasn't added
  pub unadded_runs : (list : List ℕ) (error : FanAddError) → AddsInTurn names book.rows list (Err error)
      → RunsFan state draws k text names start mid source source (ending_of_add error) []
  unadded_runs list error adds =
      was_opened book.rows mid (ending_of_add error) [] is_opened (wasnt_added list error adds refl refl)

  module _ (resting : RestsWithRows) (now : X) (lawful : IsLawful (state now)) (after : BookNow) (left : W)
      (list : List ℕ) (adds : AddsInTurn names book.rows list (Ok tt)) where
    abbrev On : Rows Client → Result Unit FanRefusal → Type 0
    On sessions result = FansOn state draws k text names book.rows start mid now source left
        (fan_ending sessions list result) (fan_lines sessions names list result)

    fans_on : (result : Result Unit FanRefusal) → FansIn state draws k text list book after mid now source left result
        → On after.rows result
    fans_on (Ok u) fans =
        let out = fans.2.2 in
        let fan = fan_of book.rows list text fans.2.0 in
        subst (λ (rows : Rows Client). On rows (Ok tt)) (sym out.changes.rows)
        (was_fanned list fans.2.0 adds fans.2.1
        (says_all_or_none resting k fan (state start) (state mid) (state now) book opened out.all_or_none lawful)
        (record { book = after; rows = out.changes.rows; ready = out.changes.ready })
        (quiet_twice (state start) (state mid) (state now) quiet out.changes.takes.went.calls.went.quiet))
    fans_on (Err (Faulted call)) fans =
        let out = fans.2.2 in
        let fan = fan_of book.rows list text fans.2.0 in
        was_cut list fans.2.0 call adds fans.2.1
        (says_all_or_none resting k fan (state start) (state mid) (state now) book opened out.all_or_none lawful)
        (let rose : Rose ((state mid).faults call) ((state now).faults call) = out.changes.takes.went.calls.went.fault in
        omega (arith, rose, quiet call))
    fans_on (Err (Closed call)) fans =
        absurd (let e : None ≡ Some call = sym opened.is_open ∙ fans.0 in cc)
    fans_on (Err Nobody) fans = had_no_name (none_named names book.rows list adds fans.1) fans.3 fans.4
    fans_on (Err (Peer at refusal)) fans =
        subst (λ (b : BookNow). On b.rows (Err (Peer at refusal))) (sym fans.2)
        (was_refused list fans.1.0 at refusal adds fans.1.1 fans.3)

    pub fan_runs : (result : Result Unit FanRefusal) → FansIn state draws k text list book after mid now source left result
        → RunsFan state draws k text names start now source left (fan_ending after.rows list result)
        (fan_lines after.rows names list result)
    fan_runs result fans = was_opened book.rows mid _ _ is_opened (fans_on result fans)
