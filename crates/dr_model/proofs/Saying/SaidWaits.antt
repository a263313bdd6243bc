-- What waits once a text is said, in a conversation with that text.
use Rattle.std.proofs.Common.{◌≡◌, ℕ, ◌+◌, ◌<◌, Bool, true, false, List, [], ◌∷◌, ◌++◌, length, drop, nat_le, sym, subst, arith, if◌then◌else◌}
use Rattle.std.specs.Prelude.{All}
use Rattle.std.proofs.lemmas.Bool.{and_from, le-leb}
use Rattle.std.proofs.lemmas.List.Elements.{All-drop, All-push, All-weaker}
use Rattle.bodies.specs.Bodies.{Body}
use Rattle.dr_base.specs.Position.{is_own, position_at}
use Rattle.dr_base.specs.declared.limits.TheConstants.{AWAITING_LIMIT, INDEX_LIMIT}
use Rattle.dr_base.specs.declared.position.Position.{Position}
use Rattle.dr_base.specs.declared.position.Side.{Side}
use Rattle.kem_laws.specs.Mechanism.{Mechanism}
use Rattle.session_model.specs.Awaiting.{AreWaiting, waiting_with}
use Rattle.session_model.specs.States.{Phase}
use Rattle.session_model.proofs.Waiting.{waiting-said, waiting-turned}
use Rattle.dr_model.specs.Conversations.Conversation.{Conversation, count_of, is_said, next_position, with_text}
use Rattle.dr_model.specs.Conversations.Lawful.{IsLawfulView}
use Rattle.dr_model.specs.Conversations.Posts.{turn_of_epoch}
use Rattle.dr_model.specs.Conversations.ViewStates.{view_own}
use Rattle.dr_model.specs.Conversations.Views.{View, after_turn}
use Rattle.dr_model.proofs.Growth.Growing.{grown, is_said-grown}
use Rattle.dr_model.proofs.Growth.GrowingLawful.{StillWaits}
use Rattle.dr_model.proofs.Growth.GrowingStates.{phase-grown}
use Rattle.dr_model.proofs.Growth.Texts.{count-here}
use Rattle.dr_model.proofs.Growth.TurnGrowth.{SameTurns}
use Rattle.dr_model.proofs.Saying.SayingText.{phase_own, phase_peers, said_view}
use Rattle.dr_base.proofs.Parity.{own_after}

-- ---- what was said

-- the new text was
pub new_said : (c : Conversation) (seeds : List (List ℕ)) (epoch : ℕ) (body : Body)
    → is_said (grown c seeds epoch body) (next_position c.said epoch) ≡ true
new_said c seeds epoch body =
    let index = count_of c epoch + 1 in
    and_from (nat_le 1 index) (nat_le index (count_of (grown c seeds epoch body) epoch)) (le-leb 1 index (omega arith))
    (le-leb index (count_of (grown c seeds epoch body) epoch) (omega (arith, count-here c.said epoch body)))

-- and so were those that waited
still_said : (c : Conversation) (seeds : List (List ℕ)) (epoch : ℕ) (body : Body) (awaiting : List Position)
    → All (λ p. is_said c p ≡ true) awaiting → All (λ p. is_said (grown c seeds epoch body) p ≡ true) awaiting
still_said c seeds epoch body awaiting said =
    All-weaker (λ p. is_said c p ≡ true) (λ p. is_said (grown c seeds epoch body) p ≡ true)
    (is_said-grown c seeds epoch body) awaiting said

with_one : (P : Position → Type 0) (awaiting : List Position) (p : Position) (full : Bool) → All P awaiting → P p
    → All P ((if full then drop 1 awaiting else awaiting) ++ p ∷ [])
with_one P awaiting p true all one = All-push P (drop 1 awaiting) p (All-drop P 1 awaiting all) one
with_one P awaiting p false all one = All-push P awaiting p all one

all_waiting : (P : Position → Type 0) (awaiting : List Position) (p : Position) → All P awaiting → P p
    → All P (waiting_with awaiting p)
unfolding waiting_with
all_waiting P awaiting p all one = with_one P awaiting p (nat_le AWAITING_LIMIT (length awaiting)) all one

-- ---- what waits

-- with the other side, whose view stays
pub others_wait : (k : Mechanism) (c : Conversation) (seeds : List (List ℕ)) (epoch : ℕ) (body : Body) (side : Side) (v : View)
    → SameTurns k c.key c.seeds seeds → IsLawfulView k c side v → is_own v.side epoch ≡ false
    → StillWaits k (grown c seeds epoch body) v v.awaiting
others_wait k c seeds epoch body side v same lawful peers = record {
  all = subst (λ (phase : Phase). AreWaiting v.side v.epoch phase v.awaiting)
      (sym (phase-grown k c seeds epoch body v same lawful.reached peers)) lawful.awaiting;
  said = still_said c seeds epoch body v.awaiting lawful.awaiting_said;
}

-- with the side that says the next text of its epoch
pub said_waits : (k : Mechanism) (c : Conversation) (body : Body) (side : Side) (v : View) → IsLawfulView k c side v
    → is_own v.side v.epoch ≡ true → count_of c v.epoch < INDEX_LIMIT
    → StillWaits k (with_text c v.epoch body) v (said_view c v).awaiting
said_waits k c body side v lawful own room =
    let d = with_text c v.epoch body in
    record {
      all = subst (λ (phase : Phase). AreWaiting v.side v.epoch phase (said_view c v).awaiting) (sym (phase_own k d v own))
          (waiting-said v.side v.epoch (view_own k c v) (view_own k d v) v.awaiting own (omega arith)
          (count-here c.said v.epoch body)
          (subst (λ (phase : Phase). AreWaiting v.side v.epoch phase v.awaiting) (phase_own k c v own) lawful.awaiting));
      said = all_waiting (λ p. is_said d p ≡ true) v.awaiting (next_position c.said v.epoch)
          (still_said c c.seeds v.epoch body v.awaiting lawful.awaiting_said) (new_said c c.seeds v.epoch body);
    }

-- with the side that begins the next epoch
pub turned_waits : (k : Mechanism) (c : Conversation) (seeds : List (List ℕ)) (body : Body) (side : Side) (v : View)
    → IsLawfulView k c side v → is_own v.side v.epoch ≡ false
    → next_position c.said (v.epoch + 1) ≡ position_at (v.epoch + 1) 1
    → StillWaits k (grown c seeds (v.epoch + 1) body) (after_turn v) (after_turn v).awaiting
turned_waits k c seeds body side v lawful peers place =
    let d = grown c seeds (v.epoch + 1) body in
    let own = own_after v.side v.epoch peers in
    record {
      all = subst (λ (phase : Phase). AreWaiting v.side (v.epoch + 1) phase (after_turn v).awaiting)
          (sym (phase_own k d (after_turn v) own))
          (waiting-turned v.side v.epoch (turn_of_epoch k c v.epoch).public (view_own k d (after_turn v)) v.awaiting peers
          (omega (arith, count-here c.said (v.epoch + 1) body))
          (subst (λ (phase : Phase). AreWaiting v.side v.epoch phase v.awaiting) (phase_peers k c v peers) lawful.awaiting));
      said = all_waiting (λ p. is_said d p ≡ true) v.awaiting (position_at (v.epoch + 1) 1)
          (still_said c seeds (v.epoch + 1) body v.awaiting lawful.awaiting_said)
          (subst (λ (p : Position). is_said d p ≡ true) place (new_said c seeds (v.epoch + 1) body));
    }
