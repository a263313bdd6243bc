-- A packet and its text last through every run.
use Rattle.std.proofs.Common.{◌≡◌, true, List, [], ◌∷◌, refl, ◌∙◌}
use Rattle.std.specs.Prelude.{All}
use Rattle.std.proofs.lemmas.List.Elements.{All-head, All-tail}
use Rattle.dr_base.specs.declared.position.Position.{Position}
use Rattle.kem_laws.specs.Mechanism.{Mechanism}
use Rattle.dr_model.specs.Conversations.Conversation.{is_said}
use Rattle.dr_model.specs.Conversations.Posts.{post_at}
use Rattle.dr_model.specs.Conversations.Views.{entry_at}
use Rattle.dr_model.specs.Machines.Events.{Event}
use Rattle.dr_model.specs.Machines.Worlds.{World, run_of, step_of}
use Rattle.dr_model.specs.Theorems.Fairness.{IsSeedWhole}
use Rattle.dr_model.specs.Theorems.LawfulWorlds.{IsLawfulWorld}
use Rattle.dr_model.proofs.Growth.SaidStays.{packets_stay, texts_stay}
use Rattle.dr_model.proofs.Worlds.LawfulWorlds.{lawful_next}

pub packets_last : (k : Mechanism) (w : World) (hs : List Event) (p : Position) → IsLawfulWorld k w → All IsSeedWhole hs
    → is_said w.conversation p ≡ true
    → (is_said (run_of k w hs).conversation p ≡ true) × (post_at k (run_of k w hs).conversation p ≡ post_at k w.conversation p)
packets_last k w [] p lawful whole said = (said, refl)
packets_last k w (h ∷ hs) p lawful whole said =
    let one = packets_stay k w h p lawful said in
    let next = lawful_next k w h lawful (All-head IsSeedWhole h hs whole) in
    let rest = packets_last k (step_of k w h).next hs p next (All-tail IsSeedWhole h hs whole) one.0 in
    (rest.0, rest.1 ∙ one.1)

pub entries_last : (k : Mechanism) (w : World) (hs : List Event) (p : Position) → IsLawfulWorld k w → All IsSeedWhole hs
    → is_said w.conversation p ≡ true → entry_at (run_of k w hs).conversation p ≡ entry_at w.conversation p
entries_last k w [] p lawful whole said = refl
entries_last k w (h ∷ hs) p lawful whole said =
    entries_last k (step_of k w h).next hs p (lawful_next k w h lawful (All-head IsSeedWhole h hs whole))
    (All-tail IsSeedWhole h hs whole) (packets_stay k w h p lawful said).0
    ∙ texts_stay k w h p said
