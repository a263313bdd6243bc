-- A book as a machine of named rows: how its sessions do a call, and what is seen of a call's end.
use Rattle.std.specs.Prelude.{Bool, Err, List, None, Ok, Option, Result, Some, [], false, is_some, option_map, slice_get, true, ℕ, ⊤, ◌∷◌, ◌≡◌}
use Rattle.boxes.specs.Entries.{Entry}
use Rattle.boxes.specs.Posts.{Post}
use Rattle.book_model.specs.Independence.{AllWentWell, asked_of}
use Rattle.book_model.specs.Rows.{under}
use Rattle.book_model.specs.Runs.{Book, Event, Happened, Outcome as Came, asks, happens, replied}
use Rattle.book_model.specs.Steps.{Ask, Mishap, Sessions, answers, closed as is_shut, fails, no_name, refuses, store_fault}
use Rattle.dr_base.specs.declared.position.Position.{Position}
use Rattle.dr_model.specs.Machines.Acts.{Act, act_on}
use Rattle.dr_model.specs.Machines.Steps.{Step}
use Rattle.kem_laws.specs.Mechanism.{Mechanism}
use Rattle.relay_wire.specs.Names.{is_name}
use Rattle.session_model.specs.Clients.{Client, summary_of}
use Rattle.session_model.specs.Schedule.{agreement_seed}
use Rattle.session_model.specs.declared.answer.Answer.{Answer}
use Rattle.session_model.specs.declared.answer.Refusal.{Refusal}
use Rattle.session_model.specs.declared.answer.Summary.{Summary}
use Rattle.client.specs.Beginning.{begun_client}
use Rattle.client.specs.Outcomes.{Outcome, acknowledged, faulted, is_closed, refused, undrawn}
use Rattle.client.specs.declared.begin.Begin.{Begin}
use Rattle.book.specs.Books.{BookNow}

-- ---- its sessions

pub data Look : Type 0 where
  at_text : ℕ → Look
  at_packet : ℕ → Look
  at_waiting : ℕ → Look
  at_numbers : Look

pub data RowCall : Type 0 where
  acts : Act → RowCall
  looks : Look → RowCall

pub data RowAnswer : Type 0 where
  acted : Answer → RowAnswer
  shows_text : Option Entry → RowAnswer
  shows_packet : Option Post → RowAnswer
  shows_waiting : Option Position → RowAnswer
  shows_numbers : Summary → RowAnswer

abbrev pub looked : Client → Look → RowAnswer
looked kept (at_text at) = shows_text (slice_get kept.inbox at)
looked kept (at_packet at) = shows_packet (slice_get kept.outbox at)
looked kept (at_waiting at) = shows_waiting (slice_get kept.state.awaiting at)
looked kept at_numbers = shows_numbers (summary_of kept)

-- a step's answer, and what is kept then; or why it is refused
abbrev pub done_as : Result (Step Client) Refusal → Result (RowAnswer × Client) Refusal
done_as (Ok made) = Ok (acted made.answer, made.next)
done_as (Err refusal) = Err refusal

abbrev pub row_does : Mechanism → Client → RowCall → Result (RowAnswer × Client) Refusal
row_does k kept (acts act) = done_as (act_on k kept act)
row_does k kept (looks look) = Ok (looked kept look, kept)

abbrev pub only_looks : RowCall → Bool
only_looks (acts act) = false
only_looks (looks look) = true

abbrev pub sessions_of : Mechanism → Sessions Client RowAnswer Refusal RowCall Begin
sessions_of k = record {
  does = row_does k;
  is_look = only_looks;
  opens = λ begin. option_map (λ pair. begun_client k begin)
      (k.meaning.pair_of (agreement_seed begin.key.bytes));
  is_lawful = is_name;
}

-- ---- a book, and what is asked of it

abbrev pub machine_of : BookNow → Book Client
machine_of book = record { rows = book.rows; closed = is_some book.closed }

abbrev pub BookOutcome : Type 0
BookOutcome = Came RowAnswer Refusal

-- a mishap befell it, as its outcome tells
abbrev pub mishap_of : BookOutcome → Option Mishap
mishap_of (replied (fails mishap)) = Some mishap
mishap_of _ = None

abbrev pub asked_under : List ℕ → Ask RowCall Begin → BookOutcome → Event RowCall Begin
asked_under name ask outcome = record {
  wanted = asks (record { name = name; ask = ask });
  mishap = mishap_of outcome;
}

-- a call of a book is a step of the machine
abbrev pub IsStep : Mechanism → BookNow → BookNow → List ℕ → Ask RowCall Begin → BookOutcome → Type 0
IsStep k old new name ask outcome =
    happens (sessions_of k) (machine_of old) (asked_under name ask outcome)
    ≡ record { outcome = outcome; next = machine_of new }

-- how an act ended. One for which no seed could be drawn was none.
abbrev pub outcome_of : Outcome → BookOutcome
outcome_of (is_closed call) = replied is_shut
outcome_of (refused refusal) = replied (refuses refusal)
outcome_of undrawn = replied no_name
outcome_of (acknowledged answer) = replied (answers (acted answer))
outcome_of (faulted call) = replied (fails store_fault)

-- ---- runs

-- books, each of which becomes the next by an event with its outcome
abbrev pub AreSteps : Mechanism → BookNow → List BookNow
    → List (Happened RowCall Begin RowAnswer Refusal) → Type 0
AreSteps k book [] [] = ⊤
AreSteps k book [] (h ∷ hs) = ⊥
AreSteps k book (next ∷ books) [] = ⊥
AreSteps k book (next ∷ books) (h ∷ hs) =
    (happens (sessions_of k) (machine_of book) h.event
    ≡ record { outcome = h.outcome; next = machine_of next })
    × AreSteps k next books hs

-- What two runs have to have in common for a name. Both books are open, and all goes well in both.
-- At the beginning the same is kept under the name, or nothing; and the calls for it are the same.
pub record HaveInCommon (name : List ℕ) (first second : BookNow)
    (events others : List (Happened RowCall Begin RowAnswer Refusal)) : Type 0 where
  pub first_open : first.closed ≡ None
  pub second_open : second.closed ≡ None
  pub first_well : AllWentWell events
  pub second_well : AllWentWell others
  pub kept : under name first.rows ≡ under name second.rows
  pub asked : asked_of name events ≡ asked_of name others
