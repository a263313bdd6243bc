-- Both sides follow the machine.
use Rattle.std.specs.Prelude.{All, List, is_some, true, ℕ, ◌≡◌}
use Rattle.dr_base.specs.declared.position.Side.{Side}
use Rattle.kem_laws.specs.Mechanism.{Mechanism}
use Rattle.session_model.specs.LawfulStates.{IsLawfulState}
use Rattle.session_model.specs.Schedule.{agreement_seed}
use Rattle.dr_model.specs.Conversations.Formats.{Formats}
use Rattle.dr_model.specs.Conversations.ViewStates.{state_of}
use Rattle.dr_model.specs.Machines.Events.{Event}
use Rattle.dr_model.specs.Machines.Sides.{step_on}
use Rattle.dr_model.specs.Machines.WorldSides.{sides_of}
use Rattle.dr_model.specs.Machines.Worlds.{World, opening_world, run_of, step_of, view_of}
use Rattle.dr_model.specs.Theorems.Fairness.{IsFair, IsSeedWhole}
use Rattle.dr_model.specs.Theorems.LawfulWorlds.{IsLawfulWorld}

-- Both sides answer as the machine does, and keep what stands in the views after it, where no tag is forged.
pub record Follows (k : Mechanism) : Type 0 where
  pub lawful_opening : (key : List ℕ) (formats : Formats) → is_some (k.meaning.pair_of (agreement_seed key)) ≡ true
      → IsLawfulWorld k (opening_world key formats)
  -- worlds stay lawful, also where a tag is forged
  pub lawful_next : (w : World) (h : Event) → IsLawfulWorld k w → IsSeedWhole h → IsLawfulWorld k (step_of k w h).next
  pub lawful_run : (w : World) (hs : List Event) → IsLawfulWorld k w → All IsSeedWhole hs → IsLawfulWorld k (run_of k w hs)
  -- a session could be resumed from what it keeps
  pub lawful_state : (w : World) (side : Side) → IsLawfulWorld k w
      → IsLawfulState k (state_of k w.conversation (view_of w side))
  pub answer : (w : World) (h : Event) → IsLawfulWorld k w → IsFair k w h
      → (step_on k (sides_of k w) h).answer ≡ (step_of k w h).answer
  pub shown : (w : World) (h : Event) → IsLawfulWorld k w → IsFair k w h
      → (step_on k (sides_of k w) h).shown ≡ (step_of k w h).shown
  pub next : (w : World) (h : Event) → IsLawfulWorld k w → IsFair k w h
      → (step_on k (sides_of k w) h).next ≡ sides_of k (step_of k w h).next
