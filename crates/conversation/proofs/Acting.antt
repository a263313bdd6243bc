-- What the other side does, one act after the other, leads the worlds on and leaves what this side
-- keeps and does.
use Rattle.std.proofs.Common.{List, [], refl, ◌∙◌, ◌∷◌}
use Rattle.dr_base.specs.Position.{peer_of}
use Rattle.dr_base.specs.declared.position.Side.{Side}
use Rattle.dr_model.specs.Machines.Acts.{Act}
use Rattle.dr_model.specs.Machines.WorldActs.{act_in}
use Rattle.dr_model.specs.Machines.Worlds.{World}
use Rattle.dr_model.specs.Theorems.LawfulWorlds.{IsLawfulWorld}
use Rattle.kem_laws.specs.Mechanism.{Mechanism}
use Rattle.client.specs.Cells.{client_cell}
use Rattle.client.specs.Grounds.{Grounds}
use Rattle.client.specs.Moments.{AreFairActs, acts_in}
use Rattle.client.proofs.Ahead.{IsAhead, goes_ahead}

module _ (k : Mechanism) (grounds : Grounds k) (side : Side) where
  -- where one world is ahead of another, and that of a third
  ahead_twice : (a b c : World) → IsAhead k side b a → IsAhead k side c b → IsAhead k side c a
  ahead_twice a b c one two = record {
    lawful = one.lawful;
    ahead_lawful = two.ahead_lawful;
    keeps = two.keeps ∙ one.keeps;
    unfound = λ test none. one.unfound test (two.unfound test none);
  }

  pub acts_ahead : (w : World) (acts : List Act) → IsLawfulWorld k w
      → AreFairActs k (peer_of side) w acts → IsAhead k side (acts_in k (peer_of side) w acts) w
  acts_ahead w [] lawful fair =
      record { lawful = lawful; ahead_lawful = lawful; keeps = refl; unfound = λ test none. none }
  acts_ahead w (act ∷ acts) lawful fair =
      let after = (act_in k w (peer_of side) act).next in
      ahead_twice w after (acts_in k (peer_of side) after acts)
      (goes_ahead client_cell k grounds.mechanism grounds.follow side w act lawful fair.0)
      (acts_ahead after acts (grounds.follow.lawful w (peer_of side) act lawful fair.0) fair.1)
