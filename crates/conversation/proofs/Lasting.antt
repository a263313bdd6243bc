-- What stands in a world stands in each later one.
use Rattle.std.proofs.Common.{arith, subst, true, ◌≡◌}
use Rattle.dr_base.specs.Position.{is_at}
use Rattle.dr_base.specs.declared.position.Side.{Side}
use Rattle.dr_model.specs.Conversations.Conversation.{is_said}
use Rattle.dr_model.specs.Conversations.Posts.{post_at}
use Rattle.dr_model.specs.Conversations.Views.{entry_at, has_opened}
use Rattle.dr_model.specs.Machines.Worlds.{World, view_of}
use Rattle.dr_model.specs.Theorems.Headline.{Headline}
use Rattle.dr_model.specs.Theorems.LawfulWorlds.{IsLawfulWorld}
use Rattle.dr_model.proofs.Worlds.Counted.{count_some}
use Rattle.dr_model.proofs.Worlds.LastingPackets.{entries_last}
use Rattle.dr_model.proofs.Worlds.WorldViews.{view_lawful}
use Rattle.kem_laws.specs.Mechanism.{Mechanism}
use Rattle.client.specs.Moments.{IsLater}
use Rattle.client.proofs.Later.{lawful_at}
use Rattle.conversation.specs.Kept.{Keeps}

module _ (k : Mechanism) (laws : Headline k) where
  pub keeps : (side : Side) (w v : World) → IsLawfulWorld k w → IsLater k w v → Keeps k side w v
  keeps side w v lawful later =
      let then = lawful_at k w v lawful later in
      record {
        lawful = then;
        later = later;
        opened = λ p has.
            let stays : has_opened (view_of v side) p ≡ true =
            subst (λ u. has_opened (view_of u side) p ≡ true) later.leads
            (laws.stays w later.events side p has) in
            let least = count_some (is_at p) (view_of v side).arrived stays in
            let most = (view_lawful k v side then).once p in
            (stays, omega (arith, least, most));
        said = λ p was.
            let last = laws.packets_last w later.events p lawful later.whole was in (
              subst (λ u. is_said u.conversation p ≡ true) later.leads last.0,
              subst (λ u. entry_at u.conversation p ≡ entry_at w.conversation p) later.leads
                  (entries_last k w later.events p lawful later.whole was),
              subst (λ u. post_at k u.conversation p ≡ post_at k w.conversation p) later.leads last.1,
            );
      }
