-- What comes of an event.
use Rattle.std.specs.Prelude.{Bool, Err, List, Ok, Result, [], false, if◌then◌else◌, true, ℕ}
use Rattle.boxes.specs.Entries.{Entry}
use Rattle.dr_base.specs.declared.position.Position.{Position}
use Rattle.session_model.specs.Leaving.{drops_any}
use Rattle.session_model.specs.declared.answer.Amount.{Amount}
use Rattle.session_model.specs.declared.answer.Amount.TheVariants.{All, Exactly}
use Rattle.session_model.specs.declared.answer.Answer.{Answer}
use Rattle.session_model.specs.declared.answer.Answer.TheVariants.{Dropped, Nothing, Opened, Refused, Said, Stopped}
use Rattle.session_model.specs.declared.answer.Refusal.{Refusal}
use Rattle.session_model.specs.declared.answer.Which.{Which}

-- what an event shows: texts, or only where texts stand
pub data Shown : Type 0 where
  texts : List Entry → Shown
  places : List Position → Shown

-- an event's answer, what it shows, and what stands after it
pub record Step (S : Type 0) : Type 0 where
  pub answer : Answer
  pub shown : Shown
  pub next : S

-- a step that shows nothing
abbrev pub step : {S : Type 0} → Answer → S → Step S
step answer next = record { answer = answer; shown = texts []; next = next }

-- a step that was made, or a refusal, which changes nothing
abbrev pub settled : {S : Type 0} → S → Result (Step S) Refusal → Step S
settled s (Ok made) = made
settled s (Err refusal) = step (Refused refusal) s

-- items leave their box, if the check allows it: with what stands then
abbrev pub leaving : {S : Type 0} → Which → Result Unit Refusal → S → Result (Step S) Refusal
leaving which (Ok stand) next = Ok (step (Dropped which) next)
leaving which (Err refusal) next = Err refusal

-- the network holds no such packet
abbrev pub nothing : {S : Type 0} → S → Step S
nothing s = step Nothing s

-- how many an amount is, where this many stand
abbrev pub amount_of : Amount → ℕ → ℕ
amount_of All standing = standing
amount_of (Exactly n) standing = n

-- an answer by which something changed of what a side keeps
abbrev pub has_effect : Answer → Bool
has_effect (Said position) = true
has_effect (Opened position) = true
has_effect (Dropped which) = drops_any which
has_effect _ = false

-- a step that was cut off: with its effect, or as `before`; a step without an effect is never cut off
abbrev pub cut_step : {S : Type 0} → S → Bool → Step S → Step S
cut_step before took made = if has_effect made.answer then step Stopped (if took then made.next else before) else made
