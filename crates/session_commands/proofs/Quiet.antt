-- Status 0 says that no call failed, so a command that comes to something counts what failed.
use Rattle.std.proofs.Common.{List, arith, refl, ℕ, ◌≡◌, ◌≤◌}
use Rattle.bodies.specs.declared.format.Format.{Format}
use Rattle.dr_base.specs.declared.position.Side.{Side}
use Rattle.dr_disk.specs.Spans.{IsQuiet}
use Rattle.dr_disk.specs.State.{DiskState}
use Rattle.dr_ports.specs.States.{SinkState, SourceState}
use Rattle.endings.specs.Ending.{code_of}
use Rattle.endings.specs.declared.ending.Ending.{Ending}
use Rattle.kem_laws.specs.Mechanism.{Mechanism}
use Rattle.client.specs.Beginning.{begin_of}
use Rattle.client.specs.declared.begin.Begin.{Begin}
use Rattle.client.specs.declared.refusals.BeginRefusal.{BeginRefusal}
use Rattle.client.specs.declared.refusals.BeginRefusal.TheVariants.{Damaged as BeginDamaged, Exists as BeginExists, Memory as BeginMemory, NoPair as BeginNoPair, StoreFault as BeginFault}
use Rattle.client.specs.declared.refusals.OpenRefusal.{OpenRefusal}
use Rattle.client.specs.declared.refusals.OpenRefusal.TheVariants.{Damaged as OpenDamaged, Memory as OpenMemory, NoSession as OpenNoSession, StoreFault as OpenFault}
use Rattle.command_lines.specs.Runs.{Runs, RunsAndCounts}
use Rattle.command_lines.proofs.Counting.{counted, input_code}
use Rattle.session_commands.specs.Beginning.{Began, RunsBegin, had_key, had_no_key, was_begun, wasnt_begun}
use Rattle.session_commands.specs.Checking.{Checked, RunsCheck, had_no_memory as look_without_memory, read_failed as look_failed, was_checked}
use Rattle.session_commands.specs.Opening.{ending_of_begin, ending_of_open}

-- ---- the endings that aren't 0

pub open_code : (refusal : OpenRefusal) → code_of (ending_of_open refusal) ≡ 0 → ⊥
open_code OpenMemory e = omega (arith, e)
open_code (OpenFault call) e = omega (arith, e)
open_code (OpenDamaged slot at) e = omega (arith, e)
open_code OpenNoSession e = omega (arith, e)

begin_code : (refusal : BeginRefusal) → code_of (ending_of_begin refusal) ≡ 0 → ⊥
begin_code BeginMemory e = omega (arith, e)
begin_code (BeginFault call) e = omega (arith, e)
begin_code (BeginDamaged slot at) e = omega (arith, e)
begin_code BeginExists e = omega (arith, e)
begin_code BeginNoPair e = omega (arith, e)

-- ---- what came to pass with it

checked_came : {X : Type 0} (state : X → DiskState) (k : Mechanism) (start now : X) (ending : Ending) (lines : List ℕ)
    → Checked state k start now ending lines → code_of ending ≡ 0 → IsQuiet (state start) (state now)
checked_came state k start now ending lines (look_without_memory same) e = absurd (omega (arith, e))
checked_came state k start now ending lines (look_failed rose) e = absurd (omega (arith, e))
checked_came state k start now ending lines (was_checked report is quiet) e = quiet

pub check_counts : {X : Type 0} (state : X → DiskState) (k : Mechanism) (start now : X)
    (old new : SinkState) (code : ℕ) → Runs (RunsCheck state k start now) old new code → old.faults ≤ new.faults
    → RunsAndCounts (RunsCheck state k start now) (IsQuiet (state start) (state now)) old new code
check_counts state k start now old new code runs later =
    counted (RunsCheck state k start now) (IsQuiet (state start) (state now)) old new code
    (λ ending lines came zero. checked_came state k start now ending lines came.checked zero) runs later

begun_came : {X : Type 0} (state : X → DiskState) (k : Mechanism) (begin : Begin) (start now : X)
    (ending : Ending) (lines : List ℕ) → Began state k begin start now ending lines → code_of ending ≡ 0 → IsQuiet (state start) (state now)
begun_came state k begin start now ending lines (wasnt_begun refusal why) e = absurd (begin_code refusal e)
begun_came state k begin start now ending lines (was_begun none pair rests quiet) e = quiet

begin_came : {X : Type 0} (state : X → DiskState) (k : Mechanism) (side : Side) (format : Format) (from to : SourceState) (start now : X)
    (ending : Ending) (lines : List ℕ)
    → RunsBegin state k side format from to start now ending lines → code_of ending ≡ 0
    → IsQuiet (state start) (state now) × (to.faults ≡ from.faults)
begin_came state k side format from to start now ending lines (had_no_key e none same) zero =
    absurd (input_code _ _ _ _ _ e refl none zero)
begin_came state k side format from to start now ending lines (had_key key e l input begins) zero =
    (begun_came state k (begin_of side format key) start now e l begins.began zero, input.quiet)

pub begin_counts : {X : Type 0} (state : X → DiskState) (k : Mechanism) (side : Side) (format : Format) (from to : SourceState)
    (start now : X) (old new : SinkState) (code : ℕ)
    → Runs (RunsBegin state k side format from to start now) old new code → old.faults ≤ new.faults
    → RunsAndCounts (RunsBegin state k side format from to start now)
    (IsQuiet (state start) (state now) × (to.faults ≡ from.faults)) old new code
begin_counts state k side format from to start now old new code runs later =
    counted (RunsBegin state k side format from to start now) (IsQuiet (state start) (state now) × (to.faults ≡ from.faults))
    old new code (begin_came state k side format from to start now) runs later
