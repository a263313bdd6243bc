-- That a command does its work.
use Rattle.std.proofs.Common.{List, None, Option, Some, inl, inr, refl, sym, ℕ, ◌∙◌, ◌≡◌}
use Rattle.std.specs.Prelude.{IsNone, IsSome}
use Rattle.dr_base.specs.declared.position.Side.{Side}
use Rattle.dr_disk.specs.State.{DiskState}
use Rattle.dr_disk.specs.declared.call.Call.TheVariants.{Read}
use Rattle.dr_model.specs.Machines.Worlds.{World}
use Rattle.endings.specs.declared.ending.Ending.{Ending}
use Rattle.endings.specs.declared.ending.Ending.TheVariants.{Refused}
use Rattle.kem_laws.specs.Mechanism.{Mechanism}
use Rattle.session_model.specs.Clients.{Client}
use Rattle.session_model.specs.Schedule.{agreement_seed}
use Rattle.session_model.specs.declared.answer.Refusal.{Refusal}
use Rattle.slot_store.specs.Reading.{damaged, holds, no_content}
use Rattle.client.specs.Beginning.{IsUnbegun}
use Rattle.client.specs.Opening.{IsUnopened}
use Rattle.client.specs.declared.begin.Begin.{Begin}
use Rattle.client.specs.declared.refusals.BeginRefusal.{BeginRefusal}
use Rattle.client.specs.declared.refusals.BeginRefusal.TheVariants.{Damaged as BeginDamaged, Exists as BeginExists, Memory as BeginMemory, NoPair as BeginNoPair, StoreFault as BeginFault}
use Rattle.client.specs.declared.refusals.OpenRefusal.{OpenRefusal}
use Rattle.client.specs.declared.refusals.OpenRefusal.TheVariants.{Damaged as OpenDamaged, Memory as OpenMemory, NoSession as OpenNoSession, StoreFault as OpenFault}
use Rattle.command_lines.specs.Acting.{ClientAsk, was_cut, was_done, was_refused, was_undrawn, was_unopened}
use Rattle.session_commands.specs.Acting.{Acted, RunsAct, RunsIn}
use Rattle.session_commands.specs.Beginning.{Began, Begins, was_begun, wasnt_begun}
use Rattle.session_commands.specs.Checking.{Checked, RunsCheck, had_no_memory, read_failed, was_checked}
use Rattle.session_commands.specs.Completing.{DidWork, IsAccepted, MayBegin, NoneFailed, ReadsWhole}
use Rattle.command_lines.specs.InWorlds.{goes_on, is_in_doubt, stays_refused, stays_undrawn, stays_unopened}
use Rattle.session_commands.specs.Opening.{ending_of_begin, ending_of_open}
use Rattle.command_lines.specs.Showing.{was_shown, wasnt_opened}
use Rattle.session_commands.specs.Showing.{RunsShow, Shown}

-- no client that can't be opened is refused
no_refusal : (refusal : OpenRefusal) (reason : Refusal) → ending_of_open refusal ≡ Refused reason → ⊥
no_refusal OpenMemory reason e = cc
no_refusal (OpenFault call) reason e = cc
no_refusal (OpenDamaged slot at) reason e = cc
no_refusal OpenNoSession reason e = cc

-- the machine refuses, where the client does
refused_in : (k : Mechanism) (w : World) (side : Side) (asked : ClientAsk) (start now : DiskState) (ending : Ending) (lines : List ℕ)
    (reason : Refusal) → ending ≡ Refused reason → IsAccepted k w side asked
    → RunsIn k w side asked start now ending lines → ⊥
refused_in k w side asked start now ending lines reason e accepted (stays_unopened refusal on) = no_refusal refusal reason e
refused_in k w side asked start now ending lines reason e accepted (stays_undrawn lacks on rests) = cc
refused_in k w side asked start now ending lines reason e accepted (stays_refused act refusal chooses fair is on rests) =
    accepted.accepts act chooses fair refusal is
refused_in k w side asked start now ending lines reason e accepted (goes_on act chooses fair on rests) = cc
refused_in k w side asked start now ending lines reason e accepted (is_in_doubt act chooses fair on) = cc

pub unopened : {X : Type 0} (state : X → DiskState) (k : Mechanism) (w : World) (side : Side) (start now : X) (refusal : OpenRefusal)
    → ReadsWhole k w side (state start) → NoneFailed (state start) (state now) → IsUnopened state k start now refusal
    → DidWork (ending_of_open refusal)
unopened state k w side start now OpenMemory whole none why = inr refl
unopened state k w side start now (OpenFault call) whole none why = absurd (none call why)
unopened state k w side start now (OpenDamaged slot at) whole none why =
    let held = whole.undamaged whole.reads.bytes whole.reads.told in
    let same : holds held.0 ≡ damaged slot at = sym held.1 ∙ why.0 whole.reads.bytes whole.reads.told in absurd (cc)
unopened state k w side start now OpenNoSession whole none why =
    let held = whole.undamaged whole.reads.bytes whole.reads.told in
    let same : holds held.0 ≡ no_content = sym held.1 ∙ why.0 whole.reads.bytes whole.reads.told in absurd (cc)

acted : {X : Type 0} (state : X → DiskState) (k : Mechanism) (w : World) (side : Side) (asked : ClientAsk) (start now : X)
    (ending : Ending) (lines : List ℕ) → ReadsWhole k w side (state start) → NoneFailed (state start) (state now)
    → IsAccepted k w side asked → RunsIn k w side asked (state start) (state now) ending lines
    → Acted state k asked start now ending lines → DidWork ending
acted state k w side asked start now ending lines whole none accepted runs (was_unopened refusal why leaves idle) =
    unopened state k w side start now refusal whole none why
acted state k w side asked start now ending lines whole none accepted runs (was_undrawn kept is undrawn leaves) =
    absurd (accepted.drawn kept undrawn)
acted state k w side asked start now ending lines whole none accepted runs (was_refused kept act refusal is asks refuses leaves) =
    absurd (refused_in k w side asked (state start) (state now) _ _ refusal refl accepted runs)
acted state k w side asked start now ending lines whole none accepted runs (was_done kept act made is asks makes leaves) = inl refl
acted state k w side asked start now ending lines whole none accepted runs (was_cut kept act made call is asks makes leaves rose) =
    absurd (none call rose)

pub act_completes : {X : Type 0} (state : X → DiskState) (k : Mechanism) (w : World) (side : Side) (asked : ClientAsk) (start now : X)
    (ending : Ending) (lines : List ℕ) → ReadsWhole k w side (state start) → NoneFailed (state start) (state now)
    → IsAccepted k w side asked → RunsAct state k asked start now ending lines → DidWork ending
act_completes state k w side asked start now ending lines whole none accepted runs =
    acted state k w side asked start now ending lines whole none accepted
    (runs.in_worlds w side whole.lawful whole.reads accepted.fair) runs.acted

shown : {X : Type 0} (state : X → DiskState) (k : Mechanism) (w : World) (side : Side) (shows : Client → List ℕ) (start now : X)
    (ending : Ending) (lines : List ℕ) → ReadsWhole k w side (state start) → NoneFailed (state start) (state now)
    → Shown state k shows start now ending lines → DidWork ending
shown state k w side shows start now ending lines whole none (wasnt_opened refusal why leaves) =
    unopened state k w side start now refusal whole none why
shown state k w side shows start now ending lines whole none (was_shown kept is behind leaves) = inl refl

pub show_completes : {X : Type 0} (state : X → DiskState) (k : Mechanism) (w : World) (side : Side) (shows : Client → List ℕ)
    (start now : X) (ending : Ending) (lines : List ℕ) → ReadsWhole k w side (state start) → NoneFailed (state start) (state now)
    → RunsShow state k shows start now ending lines → DidWork ending
show_completes state k w side shows start now ending lines whole none runs =
    shown state k w side shows start now ending lines whole none runs.shown

-- ---- beginning, and looking

pair_or_none : {A : Type 0} (o : Option A) → IsSome o → IsNone o → ⊥
pair_or_none None some none = cc
pair_or_none (Some a) some none = cc

unbegun : {X : Type 0} (state : X → DiskState) (k : Mechanism) (begin : Begin) (start now : X) (refusal : BeginRefusal)
    → MayBegin k begin (state start) → NoneFailed (state start) (state now) → IsUnbegun state k begin start now refusal
    → DidWork (ending_of_begin refusal)
unbegun state k begin start now BeginMemory may none why = inr refl
unbegun state k begin start now (BeginFault call) may none why = absurd (none call why)
unbegun state k begin start now (BeginDamaged slot at) may none why =
    let same : no_content ≡ damaged slot at = sym (may.empty may.bytes may.told) ∙ why.0 may.bytes may.told in absurd (cc)
unbegun state k begin start now BeginExists may none why =
    let held = why.0 may.bytes may.told in
    let same : no_content ≡ holds held.0 = sym (may.empty may.bytes may.told) ∙ held.1 in absurd (cc)
unbegun state k begin start now BeginNoPair may none why =
    absurd (pair_or_none (k.meaning.pair_of (agreement_seed begin.key.bytes)) may.pair why.1)

began : {X : Type 0} (state : X → DiskState) (k : Mechanism) (begin : Begin) (start now : X) (ending : Ending) (lines : List ℕ)
    → MayBegin k begin (state start) → NoneFailed (state start) (state now)
    → Began state k begin start now ending lines → DidWork ending
began state k begin start now ending lines may none (wasnt_begun refusal why) = unbegun state k begin start now refusal may none why
began state k begin start now ending lines may none (was_begun read pair rests quiet) = inl refl

pub begin_completes : {X : Type 0} (state : X → DiskState) (k : Mechanism) (begin : Begin) (start now : X) (ending : Ending)
    (lines : List ℕ) → MayBegin k begin (state start) → NoneFailed (state start) (state now)
    → Begins state k begin start now ending lines → DidWork ending
begin_completes state k begin start now ending lines may none runs = began state k begin start now ending lines may none runs.began

checked : {X : Type 0} (state : X → DiskState) (k : Mechanism) (start now : X) (ending : Ending) (lines : List ℕ)
    → NoneFailed (state start) (state now) → Checked state k start now ending lines → DidWork ending
checked state k start now ending lines none (had_no_memory same) = inr refl
checked state k start now ending lines none (read_failed rose) = absurd (none Read rose)
checked state k start now ending lines none (was_checked report is quiet) = inl refl

pub check_completes : {X : Type 0} (state : X → DiskState) (k : Mechanism) (start now : X) (ending : Ending) (lines : List ℕ)
    → NoneFailed (state start) (state now) → RunsCheck state k start now ending lines → DidWork ending
check_completes state k start now ending lines none runs = checked state k start now ending lines none runs.checked
