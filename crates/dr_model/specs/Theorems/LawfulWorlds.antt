-- Lawful worlds, which events lead to.
use Rattle.std.specs.Prelude.{IfSome, length, ◌≡◌}
use Rattle.dr_base.specs.declared.position.Side.TheVariants.{First, Second}
use Rattle.kem_laws.specs.Mechanism.{Mechanism}
use Rattle.dr_model.specs.Conversations.Lawful.{IsLawfulConversation, IsLawfulView}
use Rattle.dr_model.specs.Machines.Worlds.{World}

pub record IsLawfulWorld (k : Mechanism) (w : World) : Type 0 where
  pub conversation : IsLawfulConversation k w.conversation
  pub first : IsLawfulView k w.conversation First w.first
  pub second : IsLawfulView k w.conversation Second w.second
  pub given : IfSome w.draws.given (λ seed. length seed ≡ 32)
