-- Which step of the machine a call is.
use Rattle.std.specs.Prelude.{Err, List, None, Ok, Option, Result, Some, [], length, ℕ, ◌∷◌, ◌≡◌}
use Rattle.book_model.specs.Steps.{bad_name, book_full, calls, closed as is_shut, fails, forgotten, has_begun, name_taken, no_memory, no_name, no_pair, store_fault}
use Rattle.book_model.specs.Runs.{replied}
use Rattle.dr_base.specs.declared.position.Position.{Position}
use Rattle.dr_model.specs.Machines.Acts.{dropping, saying, taking}
use Rattle.dr_ports.specs.Seeds.{drawn}
use Rattle.dr_ports.specs.States.{DrawsState}
use Rattle.kem_laws.specs.Mechanism.{Mechanism}
use Rattle.session_model.specs.Contents.{text_content}
use Rattle.session_model.specs.declared.answer.Answer.TheVariants.{Dropped}
use Rattle.session_model.specs.declared.answer.Which.{Which}
use Rattle.client.specs.Outcomes.{Outcome, dropped_as, said_as, taken_as}
use Rattle.client.specs.declared.refusals.DropRefusal.{DropRefusal}
use Rattle.client.specs.declared.refusals.SayRefusal.{SayRefusal}
use Rattle.client.specs.declared.refusals.SayRefusal.TheVariants.{DrawFault}
use Rattle.client.specs.declared.refusals.TakeRefusal.{TakeRefusal}
use Rattle.book.specs.Books.{BookNow}
use Rattle.book.specs.Machines.{BookOutcome, IsStep, acts, outcome_of}
use Rattle.book.specs.declared.refusals.BookBeginError.{BookBeginError}
use Rattle.book.specs.declared.refusals.BookBeginError.TheVariants.{BadName, BookFull, Closed as BeginClosed, Memory, NameTaken, NoPair, StoreFault as BeginFaulted}
use Rattle.book.specs.declared.refusals.BookRefusal.{BookRefusal}
use Rattle.book.specs.declared.refusals.BookRefusal.TheVariants.{Closed, NoName, Of}
use Rattle.book.specs.declared.refusals.ForgetError.{ForgetError}
use Rattle.book.specs.declared.refusals.ForgetError.TheVariants.{Closed as ForgetClosed, NoName as Nobody, StoreFault as ForgetFaulted}

-- what is replied, by how the row's session ended
abbrev pub replied_as : {T R : Type 0} → (Result T R → Outcome) → Result T (BookRefusal R)
    → BookOutcome
replied_as ends (Ok v) = outcome_of (ends (Ok v))
replied_as ends (Err (Of e)) = outcome_of (ends (Err e))
replied_as ends (Err (Closed call)) = replied is_shut
replied_as ends (Err NoName) = replied no_name

-- what was drawn between two moments of a source
pub data WasDrawn {W : Type 0} (draws : W → DrawsState) (source left : W) : Option (List ℕ) → Type 0 where
  was_none : left ≡ source → WasDrawn draws source left None
  was_seed : (seed : List ℕ) → length seed ≡ 32
      → (draws source).coming ≡ drawn (seed ∷ []) (draws left).coming
      → (draws left).faults ≡ (draws source).faults
      → WasDrawn draws source left (Some seed)

-- the text was said with what was drawn; or no seed could be drawn, which is no step
abbrev pub SaysAsStep : {W : Type 0} → (W → DrawsState) → Mechanism → List ℕ → List ℕ → BookNow → BookNow → W → W
    → Result Position (BookRefusal SayRefusal) → Type 0
SaysAsStep draws k text name old new source left (Err (Of DrawFault)) = new ≡ old
SaysAsStep draws k text name old new source left result =
    (draw : Option (List ℕ)) × WasDrawn draws source left draw
    × IsStep k old new name (calls (acts (saying (text_content text) draw))) (replied_as said_as result)

abbrev pub TakesAsStep : Mechanism → List ℕ → List ℕ → BookNow → BookNow
    → Result Position (BookRefusal TakeRefusal) → Type 0
TakesAsStep k packet name old new result =
    IsStep k old new name (calls (acts (taking packet))) (replied_as taken_as result)

abbrev pub DropsAsStep : Mechanism → Which → List ℕ → BookNow → BookNow
    → Result Unit (BookRefusal DropRefusal) → Type 0
DropsAsStep k which name old new result =
    IsStep k old new name (calls (acts (dropping which))) (replied_as (dropped_as (Dropped which)) result)

-- ---- of sessions that begin and end

abbrev pub begun_as : Result Unit BookBeginError → BookOutcome
begun_as (Ok u) = replied has_begun
begun_as (Err (BeginClosed call)) = replied is_shut
begun_as (Err BadName) = replied bad_name
begun_as (Err NameTaken) = replied name_taken
begun_as (Err (BookFull rows)) = replied book_full
begun_as (Err Memory) = replied (fails no_memory)
begun_as (Err NoPair) = replied no_pair
begun_as (Err (BeginFaulted call)) = replied (fails store_fault)

abbrev pub forgotten_as : Result Unit ForgetError → BookOutcome
forgotten_as (Ok u) = replied forgotten
forgotten_as (Err (ForgetClosed call)) = replied is_shut
forgotten_as (Err Nobody) = replied no_name
forgotten_as (Err (ForgetFaulted call)) = replied (fails store_fault)
