-- What both sides keep in a world.
use Rattle.dr_base.specs.declared.position.Side.{Side}
use Rattle.dr_base.specs.declared.position.Side.TheVariants.{First, Second}
use Rattle.kem_laws.specs.Mechanism.{Mechanism}
use Rattle.session_model.specs.Clients.{Client}
use Rattle.dr_model.specs.Conversations.Posts.{posts}
use Rattle.dr_model.specs.Conversations.ViewStates.{client_at}
use Rattle.dr_model.specs.Machines.Sides.{Sides}
use Rattle.dr_model.specs.Machines.Worlds.{World, view_of}

abbrev pub kept_in : Mechanism → World → Side → Client
kept_in k w side = client_at k w.conversation (view_of w side)

abbrev pub sides_of : Mechanism → World → Sides
sides_of k w = record {
  key = w.conversation.key;
  first = kept_in k w First;
  second = kept_in k w Second;
  posts = posts k w.conversation;
  draws = w.draws;
}
