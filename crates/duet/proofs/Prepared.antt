-- What a call of a line comes to.
use Rattle.std.proofs.Common.{List, Option, Some, ap, sym, ℕ, ◌∙◌, ◌≡◌}
use Rattle.std.specs.Prelude.{option_map}
use Rattle.dr_base.specs.declared.position.Side.{Side}
use Rattle.dr_model.specs.Machines.Acts.{taken_by, taking}
use Rattle.dr_model.specs.Machines.Events.{PacketSource, does, takes}
use Rattle.dr_model.specs.Machines.Network.{packet_given}
use Rattle.dr_model.specs.Machines.Sides.{Sides, acted_on, client_of, step_on}
use Rattle.dr_model.specs.Machines.Steps.{settled, step}
use Rattle.kem_laws.specs.Mechanism.{Mechanism}
use Rattle.session_model.specs.Clients.{take_on}
use Rattle.session_model.specs.declared.answer.Answer.{Answer}
use Rattle.duet.specs.Gathering.{gathering}
use Rattle.duet.specs.Held.{DuetNow, after_step, with_draws}
use Rattle.duet.proofs.Gathering.{quiet_gathers}

module _ (k : Mechanism) (s : Sides) (side : Side) where
  pub packet_here : (source : PacketSource) (bytes : List ℕ) → packet_given s.posts side source ≡ Some bytes
      → step_on k s (does side (takes source))
      ≡ gathering s side (settled (client_of s side) (taken_by (take_on k (client_of s side) bytes)))
  packet_here source bytes is =
      ap (λ (given : Option (List ℕ)). acted_on k s side (option_map taking given)) is ∙ sym (quiet_gathers k s side (taking bytes) tt)

-- only draws were made
pub left_after : (old new : DuetNow) (answer : Answer) → new ≡ with_draws old new.sides.draws
    → new ≡ after_step old (step answer new.sides)
left_after old new answer drawn =
    drawn ∙ sym (ap (λ (d : DuetNow). let left : DuetNow = record old { sides = d.sides } in left) drawn)
