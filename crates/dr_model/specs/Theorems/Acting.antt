-- What one side does follows the machine.
use Rattle.std.specs.Prelude.{IfSome, List, Option, is_some, length, ℕ, ⊤, ◌≡◌}
use Rattle.dr_base.specs.Position.{peer_of}
use Rattle.dr_base.specs.declared.position.Side.{Side}
use Rattle.kem_laws.specs.Mechanism.{Mechanism}
use Rattle.session_model.specs.Contents.{Content}
use Rattle.dr_model.specs.Machines.Acts.{Act, act_on, needs_seed, saying, taking}
use Rattle.dr_model.specs.Machines.Steps.{settled}
use Rattle.dr_model.specs.Machines.WorldActs.{act_in, kept_by}
use Rattle.dr_model.specs.Machines.WorldSides.{kept_in}
use Rattle.dr_model.specs.Machines.Worlds.{World, may_say}
use Rattle.dr_model.specs.Theorems.Fairness.{IsUnforged}
use Rattle.dr_model.specs.Theorems.LawfulWorlds.{IsLawfulWorld}

-- a seed of 32 bytes was drawn for a content, exactly where it needs one
pub record IsDrawn (k : Mechanism) (w : World) (side : Side) (content : Content) (draw : Option (List ℕ)) : Type 0 where
  pub needed : is_some draw ≡ needs_seed (may_say k w side content)
  pub whole : IfSome draw (λ seed. length seed ≡ 32)

-- the draw of what is said, and no forged tag in bytes that are made up
abbrev pub IsFairAct : Mechanism → World → Side → Act → Type 0
IsFairAct k w side (saying content draw) = IsDrawn k w side content draw
IsFairAct k w side (taking bytes) = IsUnforged k w side bytes
IsFairAct k w side _ = ⊤

-- A side makes of an act what the machine does, and then keeps what stands in the next world; the other side keeps what
-- it kept.
pub record ActsFollow (k : Mechanism) : Type 0 where
  pub follows : (w : World) (side : Side) (act : Act) → IsLawfulWorld k w → IsFairAct k w side act
      → settled (kept_in k w side) (act_on k (kept_in k w side) act) ≡ kept_by k side (act_in k w side act)
  pub lawful : (w : World) (side : Side) (act : Act) → IsLawfulWorld k w → IsFairAct k w side act
      → IsLawfulWorld k (act_in k w side act).next
  pub others : (w : World) (side : Side) (act : Act) → IsLawfulWorld k w → IsFairAct k w side act
      → kept_in k (act_in k w side act).next (peer_of side) ≡ kept_in k w (peer_of side)
