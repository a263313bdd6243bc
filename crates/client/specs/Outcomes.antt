-- What a call on a client does, by how it ends.
use Rattle.std.specs.Prelude.{Bool, Err, None, Ok, Result, Some, false, true, ℕ, ◌+◌, ◌-◌, ◌<◌, ◌≡◌}
use Rattle.dr_base.specs.Causes.{Rose}
use Rattle.dr_base.specs.declared.position.Position.{Position}
use Rattle.dr_disk.specs.Spans.{FailsLater, HasFailedAsTold, HavePassed, IsQuiet, Span}
use Rattle.dr_disk.specs.State.{DiskState, all_pass}
use Rattle.dr_disk.specs.declared.call.Call.{Call}
use Rattle.dr_model.specs.Machines.Steps.{Step, has_effect, step}
use Rattle.session_model.specs.Clients.{Client}
use Rattle.session_model.specs.declared.answer.Answer.{Answer}
use Rattle.session_model.specs.declared.answer.Answer.TheVariants.{Opened, Said}
use Rattle.session_model.specs.declared.answer.Refusal.{Refusal}
use Rattle.session_model.specs.declared.answer.Refusal.TheVariants.{NoPair}
use Rattle.session_record.specs.Record.{record_text}
use Rattle.slot_store.specs.Stops.{call_after, calls_of}
use Rattle.client.specs.Cells.{Cell, IsOldOrNewInCell, IsStoppedInCell, ReadsOutsideCell, client_cell}
use Rattle.client.specs.Clients.{ClientNow}
use Rattle.client.specs.Keepings.{Keeping, cell_of, client_keeping}
use Rattle.client.specs.declared.refusals.DropRefusal.{DropRefusal}
use Rattle.client.specs.declared.refusals.DropRefusal.TheVariants.{Closed as DropClosed, Refused as DropRefused, StoreFault as DropFault}
use Rattle.client.specs.declared.refusals.SayRefusal.{SayRefusal}
use Rattle.client.specs.declared.refusals.SayRefusal.TheVariants.{Closed as SayClosed, DrawFault, NoPair as SayNoPair, Refused as SayRefused, StoreFault as SayFault}
use Rattle.client.specs.declared.refusals.TakeRefusal.{TakeRefusal}
use Rattle.client.specs.declared.refusals.TakeRefusal.TheVariants.{Closed as TakeClosed, Refused as TakeRefused, StoreFault as TakeFault}

-- how a call ends
pub data Outcome : Type 0 where
  -- the client was closed before, by a call of this kind
  is_closed : (call : Call) → Outcome
  refused : (refusal : Refusal) → Outcome
  -- a seed was needed, and none could be drawn
  undrawn : Outcome
  acknowledged : (answer : Answer) → Outcome
  -- a call on the disk failed, of this kind
  faulted : (call : Call) → Outcome

abbrev pub said_as : Result Position SayRefusal → Outcome
said_as (Ok position) = acknowledged (Said position)
said_as (Err (SayClosed call)) = is_closed call
said_as (Err (SayRefused refusal)) = refused refusal
said_as (Err DrawFault) = undrawn
said_as (Err (SayNoPair seed)) = refused NoPair
said_as (Err (SayFault call)) = faulted call

abbrev pub taken_as : Result Position TakeRefusal → Outcome
taken_as (Ok position) = acknowledged (Opened position)
taken_as (Err (TakeClosed call)) = is_closed call
taken_as (Err (TakeRefused refusal)) = refused refusal
taken_as (Err (TakeFault call)) = faulted call

abbrev pub dropped_as : Answer → Result Unit DropRefusal → Outcome
dropped_as answer (Ok done) = acknowledged answer
dropped_as answer (Err (DropClosed call)) = is_closed call
dropped_as answer (Err (DropRefused refusal)) = refused refusal
dropped_as answer (Err (DropFault call)) = faulted call

-- of a step that has an effect, on an open client
abbrev pub kept_as : Answer → Result Unit Call → Outcome
kept_as answer (Ok done) = acknowledged answer
kept_as answer (Err call) = faulted call

-- ---- what happened to the disk while one record was replaced by another

-- each crash leaves the one or the other, with all outside the place as it was
abbrev pub IsReplacingInCell : Cell → Client → Client → DiskState → DiskState → Type 0
IsReplacingInCell cell before after start now =
    Span start now
    (IsOldOrNewInCell cell start (Some (record_text before)) (Some (record_text after)))

abbrev pub IsReplacing : Client → Client → DiskState → DiskState → Type 0
IsReplacing = IsReplacingInCell client_cell

-- how many writes and syncs it takes
abbrev pub replacing_calls : Client → Client → ℕ
replacing_calls before after = calls_of (Some (record_text before)) (Some (record_text after))

-- which kind of call comes next of a replacement, once this many have passed
abbrev pub replacing_call : Client → Client → ℕ → Call
replacing_call before after n =
    call_after (Some (record_text before)) (Some (record_text after)) n

-- it was replaced, by so many writes and syncs, and the disk is at rest
pub record IsKeptBy {S : Type 0} (keeping : Keeping S) (before after : Client) (old new : S)
    (start now : DiskState) : Type 0 where
  pub ready : keeping.ready new now
  pub stays : keeping.place new ≡ keeping.place old
  pub any_moment : IsReplacingInCell (cell_of keeping old) before after start now
  pub reads : ReadsOutsideCell (cell_of keeping old) start now
  pub passed : HavePassed (replacing_calls before after) start now
  pub ahead : FailsLater start now
  pub quiet : IsQuiet start now

-- a call on the disk failed meanwhile, of this kind
pub record IsLostInCell (cell : Cell) (before after : Client) (call : Call) (start now : DiskState)
    : Type 0 where
  pub any_moment : IsReplacingInCell cell before after start now
  pub reads : ReadsOutsideCell cell start now
  -- by how many writes and syncs passed: which of the two records each crash leaves, and a read gives
  pub stopped : IsStoppedInCell cell (Some (record_text before)) (Some (record_text after))
      start now
  pub few : (l m : ℕ) → start.passed ≡ Some l → now.passed ≡ Some m
      → m < l + replacing_calls before after
  -- the call that failed is the one that came next
  pub kind : (l m : ℕ) → start.passed ≡ Some l → now.passed ≡ Some m
      → call ≡ replacing_call before after (m - l)
  pub ended : HasFailedAsTold start now
  pub rose : Rose (start.faults call) (now.faults call)

abbrev pub IsLost : Client → Client → Call → DiskState → DiskState → Type 0
IsLost = IsLostInCell client_cell

-- ---- what a call does, over what its step makes of what is kept

-- the step took effect, and its record is on the disk
pub record IsKeeperDone {S : Type 0} (keeping : Keeping S) (made : Result (Step Client) Refusal)
    (old new : S) (start now : DiskState) (answer : Answer) : Type 0 where
  pub made_is : made ≡ Ok (step answer (keeping.kept new))
  pub was_open : keeping.closed old ≡ None
  pub stays_open : keeping.closed new ≡ None
  pub disk : IsKeptBy keeping (keeping.kept old) (keeping.kept new) old new start now

-- the step changed nothing, and no call on the disk was made
abbrev pub IsKeeperIdle : {S X : Type 0} → Keeping S → Result (Step Client) Refusal → S → S → X → X
    → Answer → Type 0
IsKeeperIdle keeping made old new start now answer =
    (made ≡ Ok (step answer (keeping.kept new))) × (keeping.closed old ≡ None) × (new ≡ old)
    × (now ≡ start)

-- a call on the disk failed in a step with an effect: the keeper is closed, and keeps what it kept,
-- where it kept it
pub record IsKeeperCutOff {S : Type 0} (keeping : Keeping S) (made : Result (Step Client) Refusal)
    (old new : S) (start now : DiskState) (call : Call) : Type 0 where
  pub next : Step Client
  pub made_is : made ≡ Ok next
  pub effect : has_effect next.answer ≡ true
  pub was_open : keeping.closed old ≡ None
  pub closes : keeping.closed new ≡ Some call
  pub keeps : keeping.kept new ≡ keeping.kept old
  pub stays : keeping.place new ≡ keeping.place old
  pub disk : IsLostInCell (cell_of keeping old) (keeping.kept old) next.next call start now

abbrev pub IsKeeperEffected : {S X : Type 0} → Keeping S → (X → DiskState) → Bool
    → Result (Step Client) Refusal → S → S → X → X → Answer → Type 0
IsKeeperEffected keeping state true made old new start now answer =
    IsKeeperDone keeping made old new (state start) (state now) answer
IsKeeperEffected keeping state false made old new start now answer =
    IsKeeperIdle keeping made old new start now answer

-- Just this: nothing is changed and no call on the disk is made where the keeper is closed, or the
-- step is refused.
abbrev pub KeeperActs : {S X : Type 0} → Keeping S → (X → DiskState) → Result (Step Client) Refusal
    → S → S → X → X → Outcome → Type 0
KeeperActs keeping state made old new start now (is_closed call) =
    (keeping.closed old ≡ Some call) × (new ≡ old) × (now ≡ start)
KeeperActs keeping state made old new start now (refused refusal) =
    (keeping.closed old ≡ None) × (made ≡ Err refusal) × (new ≡ old) × (now ≡ start)
KeeperActs keeping state made old new start now undrawn = ⊥
KeeperActs keeping state made old new start now (acknowledged answer) =
    IsKeeperEffected keeping state (has_effect answer) made old new start now answer
KeeperActs keeping state made old new start now (faulted call) =
    IsKeeperCutOff keeping made old new (state start) (state now) call

-- ---- of a client

abbrev pub IsDone : Result (Step Client) Refusal → ClientNow → ClientNow → DiskState → DiskState
    → Answer → Type 0
IsDone = IsKeeperDone client_keeping

abbrev pub IsCutOff : Result (Step Client) Refusal → ClientNow → ClientNow → DiskState → DiskState
    → Call → Type 0
IsCutOff = IsKeeperCutOff client_keeping

abbrev pub IsIdle : {X : Type 0} → Result (Step Client) Refusal → ClientNow → ClientNow → X → X
    → Answer → Type 0
IsIdle made old new start now answer = IsKeeperIdle client_keeping made old new start now answer

abbrev pub IsEffected : {X : Type 0} → (X → DiskState) → Bool → Result (Step Client) Refusal → ClientNow → ClientNow → X → X → Answer → Type 0
IsEffected state effect made old new start now answer =
    IsKeeperEffected client_keeping state effect made old new start now answer

abbrev pub Acts : {X : Type 0} → (X → DiskState) → Result (Step Client) Refusal → ClientNow → ClientNow → X → X → Outcome → Type 0
Acts state made old new start now outcome =
    KeeperActs client_keeping state made old new start now outcome

-- ---- where no call fails

-- where all calls on the disk pass, none has failed, and all pass from then on
abbrev pub IsPassed : Outcome → Type 0
IsPassed (faulted call) = ⊥
IsPassed outcome = Unit {0}

abbrev pub StaysPassing : DiskState → DiskState → Outcome → Type 0
StaysPassing start now outcome = start.fate ≡ all_pass → IsPassed outcome × (now.fate ≡ all_pass)
