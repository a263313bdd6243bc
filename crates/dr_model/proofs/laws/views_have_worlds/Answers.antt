use Rattle.std.proofs.Common.{None, refl}
use Rattle.dr_base.specs.declared.position.Side.{Side}
use Rattle.dr_base.specs.declared.position.Side.TheVariants.{First, Second}
use Rattle.kem_laws.specs.Mechanism.{Mechanism}
use Rattle.dr_model.specs.Conversations.Conversation.{Conversation}
use Rattle.dr_model.specs.Conversations.Lawful.{IsLawfulConversation, IsLawfulView}
use Rattle.dr_model.specs.Conversations.Views.{View}
use Rattle.dr_model.specs.Theorems.ViewWorlds.{HasWorld}
use Rattle.dr_model.proofs.Worlds.FullViews.{full_lawful, full_view}
use Rattle.dr_model.proofs.laws.views_have_worlds.Goals as goal

-- the world in which the other side has opened all
of_side : (k : Mechanism) (c : Conversation) (side : Side) (v : View) → IsLawfulConversation k c → IsLawfulView k c side v
    → HasWorld k c side v
of_side k c First v lawful view = record {
  world = record { conversation = c; first = v; second = full_view k c Second; draws = record { made = 0; given = None } };
  lawful = record { conversation = lawful; first = view; second = full_lawful k c Second lawful; given = tt };
  conversation_is = refl;
  view_is = refl;
}
of_side k c Second v lawful view = record {
  world = record { conversation = c; first = full_view k c First; second = v; draws = record { made = 0; given = None } };
  lawful = record { conversation = lawful; first = full_lawful k c First lawful; second = view; given = tt };
  conversation_is = refl;
  view_is = refl;
}

pub returns : goal.returns
returns c k = of_side k
