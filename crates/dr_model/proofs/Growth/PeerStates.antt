-- What a side keeps stays as it is when the other side says a text.
use Rattle.std.proofs.Common.{◌≡◌, ℕ, ◌+◌, true, false, not, List, [], ◌∷◌, ◌++◌, ◌∙◌, ap, arith}
use Rattle.bodies.specs.Bodies.{Body}
use Rattle.dr_base.specs.Position.{is_own, peer_of}
use Rattle.dr_base.specs.declared.position.Side.{Side}
use Rattle.dr_base.proofs.Parity.{own_after, own_peer}
use Rattle.kem_laws.specs.Mechanism.{Mechanism}
use Rattle.dr_model.specs.Conversations.Conversation.{Conversation, with_text, with_turn}
use Rattle.dr_model.specs.Conversations.Lawful.{IsLawfulView}
use Rattle.dr_model.specs.Conversations.ViewStates.{state_of}
use Rattle.dr_model.specs.Conversations.Views.{View}
use Rattle.dr_model.proofs.Growth.GrowingStates.{state-grown}
use Rattle.dr_model.proofs.Growth.TurnGrowth.{turns_same, turns_stay}
use Rattle.dr_model.proofs.Worlds.WorldViews.{at_last, own_in}

-- where the text is in an epoch that the other side has begun
pub state_stays : (k : Mechanism) (c : Conversation) (side : Side) (v u : View) (body : Body) → IsLawfulView k c side v
    → IsLawfulView k c (peer_of side) u
    → is_own side v.epoch ≡ true → state_of k (with_text c v.epoch body) u ≡ state_of k c u
state_stays k c side v u body lawful other own =
    state-grown k c c.seeds v.epoch body u (turns_same k c.key c.seeds)
    (omega (arith, lawful.near_end, other.reached)) other.reached
    (own_in k c (peer_of side) u v.epoch false other (own_peer side v.epoch ∙ ap not own))

-- and where it begins one
pub state_stays_turned : (k : Mechanism) (c : Conversation) (side : Side) (v u : View) (body : Body) (seed : List ℕ)
    → IsLawfulView k c side v
    → IsLawfulView k c (peer_of side) u → is_own side v.epoch ≡ false
    → state_of k (with_turn c seed (v.epoch + 1) body) u ≡ state_of k c u
state_stays_turned k c side v u body seed lawful other peers =
    let last = at_last k c side v lawful peers in
    state-grown k c (c.seeds ++ seed ∷ []) (v.epoch + 1) body u (turns_stay k c.key c.seeds seed)
    (omega (arith, other.reached)) other.reached
    (own_in k c (peer_of side) u (v.epoch + 1) false other
    (own_peer side (v.epoch + 1) ∙ ap not (own_after side v.epoch peers)))
