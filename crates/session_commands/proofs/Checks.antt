-- A look at the disk that was refused.
use Rattle.std.proofs.Common.{[], refl, subst, ◌≡◌}
use Rattle.dr_base.specs.Causes.{Rose}
use Rattle.dr_disk.specs.declared.call.Call.{Call}
use Rattle.dr_disk.specs.declared.call.Call.TheVariants.{Read}
use Rattle.dr_disk.specs.State.{DiskState}
use Rattle.kem_laws.specs.Mechanism.{Mechanism}
use Rattle.slot_store.specs.declared.errors.InspectError.{InspectError}
use Rattle.slot_store.specs.declared.errors.InspectError.TheVariants.{Memory, StoreFault}
use Rattle.session_commands.specs.Checking.{Checked, ending_of_look, had_no_memory, read_failed}

pub look_refused : {X : Type 0} (state : X → DiskState) (k : Mechanism) (start now : X) (error : InspectError)
    → (error ≡ Memory → now ≡ start)
    → ((call : Call) → error ≡ StoreFault call → (call ≡ Read) × Rose ((state start).faults call) ((state now).faults call))
    → Checked state k start now (ending_of_look error) []
look_refused state k start now Memory memory fault = had_no_memory (memory refl)
look_refused state k start now (StoreFault call) memory fault =
    let cause = fault call refl in
    read_failed (subst (λ x. Rose ((state start).faults x) ((state now).faults x)) cause.0 cause.1)
