-- A step that was cut off.
use Rattle.std.proofs.Common.{Bool, false, if◌then◌else◌, refl, true, ◌≡◌}
use Rattle.kem_laws.specs.Mechanism.{Mechanism}
use Rattle.session_model.specs.declared.answer.Answer.TheVariants.{Stopped}
use Rattle.dr_model.specs.Machines.Steps.{Step, cut_step, has_effect, step}
use Rattle.dr_model.specs.Machines.WorldSides.{sides_of}
use Rattle.dr_model.specs.Machines.Worlds.{World}
use Rattle.dr_model.proofs.Worlds.SeenWorlds.{seen_world}

cut_cases : {S : Type 0} (Q : Step S → Type 0) (before : S) (took : Bool) (made : Step S) (effect : Bool)
    → Q (step Stopped made.next) → Q (step Stopped before) → Q made
    → Q (if effect then step Stopped (if took then made.next else before) else made)
cut_cases Q before true made true behind none all = behind
cut_cases Q before false made true behind none all = none
cut_cases Q before took made false behind none all = all

-- what holds of a step, of a stop after it and of one before it, holds of the step that was cut off
pub cut_off : {S : Type 0} (Q : Step S → Type 0) (before : S) (took : Bool) (made : Step S) → Q (step Stopped made.next)
    → Q (step Stopped before) → Q made → Q (cut_step before took made)
cut_off Q before took made behind none all = cut_cases Q before took made (has_effect made.answer) behind none all

seen_cases : (k : Mechanism) (w : World) (took : Bool) (made : Step World) (effect : Bool)
    → (if effect then step Stopped (if took then sides_of k made.next else record (sides_of k w) { draws = made.next.draws }) else seen_world k made)
    ≡ seen_world k (if effect then step Stopped (if took then made.next else record w { draws = made.next.draws }) else made)
seen_cases k w true made true = refl
seen_cases k w false made true = refl
seen_cases k w took made false = refl

-- both sides see a cut step as the machine does
pub cut_seen : (k : Mechanism) (w : World) (took : Bool) (made : Step World)
    → cut_step (record (sides_of k w) { draws = made.next.draws }) took (seen_world k made)
    ≡ seen_world k (cut_step (record w { draws = made.next.draws }) took made)
cut_seen k w took made = seen_cases k w took made (has_effect made.answer)
