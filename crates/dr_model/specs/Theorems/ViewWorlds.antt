-- Each lawful view of a lawful conversation is a side's view in a lawful world.
use Rattle.std.specs.Prelude.{◌≡◌}
use Rattle.dr_base.specs.declared.position.Side.{Side}
use Rattle.kem_laws.specs.Mechanism.{Mechanism}
use Rattle.dr_model.specs.Conversations.Conversation.{Conversation}
use Rattle.dr_model.specs.Conversations.Lawful.{IsLawfulConversation, IsLawfulView}
use Rattle.dr_model.specs.Conversations.Views.{View}
use Rattle.dr_model.specs.Machines.Worlds.{World, view_of}
use Rattle.dr_model.specs.Theorems.LawfulWorlds.{IsLawfulWorld}

-- a lawful world of this conversation, in which the side stands in this view
pub record HasWorld (k : Mechanism) (c : Conversation) (side : Side) (v : View) : Type 0 where
  pub world : World
  pub lawful : IsLawfulWorld k world
  pub conversation_is : world.conversation ≡ c
  pub view_is : view_of world side ≡ v

-- So what is said of sides in lawful worlds is said of all lawful views: there is one in which the other side has opened
-- all, and its boxes are empty.
abbrev pub ViewsHaveWorlds : Mechanism → Type 0
ViewsHaveWorlds k = (c : Conversation) (side : Side) (v : View) → IsLawfulConversation k c → IsLawfulView k c side v
    → HasWorld k c side v
