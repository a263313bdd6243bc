-- A lawful view of a conversation with one text more is lawful.
use Rattle.std.proofs.Common.{Option, ◌≡◌, ℕ, ◌+◌, ◌-◌, ◌<◌, ◌≤◌, true, false, List, [], ◌∷◌, length, refl, sym, ◌∙◌, ap, inl, inr, length-append, if◌then◌else◌, arith}
use Rattle.std.specs.Prelude.{All}
use Rattle.std.proofs.lemmas.Bool.{cases_eq}
use Rattle.std.proofs.lemmas.List.Elements.{All-weaker}
use Rattle.bodies.specs.Bodies.{Body}
use Rattle.dr_base.specs.declared.limits.TheConstants.{OUTBOX_LIMIT}
use Rattle.dr_base.specs.Position.{is_own}
use Rattle.dr_base.specs.declared.position.Side.{Side}
use Rattle.dr_base.proofs.Parity.{own_after}
use Rattle.kem_laws.specs.Mechanism.{Mechanism}
use Rattle.dr_model.specs.Conversations.Conversation.{Conversation, next_position}
use Rattle.dr_model.specs.Conversations.Lawful.{HasArrived, IsLawfulView}
use Rattle.dr_model.specs.Conversations.Posts.{post_at, posts_of}
use Rattle.dr_model.specs.Conversations.Views.{View, after_turn, outbox_of}
use Rattle.dr_model.proofs.Growth.BoxSizes.{length-inbox_of, length-outbox_of, one_more_fits}
use Rattle.dr_model.proofs.Growth.Growing.{grown, is_said-grown}
use Rattle.dr_model.proofs.Growth.GrowingViews.{missing_of-grown}
use Rattle.dr_model.proofs.Growth.TurnGrowth.{SameTurns, posts_of-grown}
use Rattle.dr_model.proofs.Growth.TurnedViews.{missing_of-turned}
use Rattle.std.specs.List.{list_any}
use Rattle.bodies.specs.Receipts.{Receipt}
use Rattle.dr_base.specs.Position.{is_at}
use Rattle.dr_base.specs.declared.position.Position.{Position}
use Rattle.session_model.specs.Awaiting.{AreWaiting}
use Rattle.dr_model.specs.Conversations.Conversation.{is_said, receipt_at}
use Rattle.dr_model.specs.Conversations.Receipts.{IsTrue}
use Rattle.dr_model.specs.Conversations.ViewStates.{view_phase}
use Rattle.dr_model.proofs.Growth.SameViews.{missing_of-waiting}
use Rattle.dr_model.proofs.Receipts.Truth.{each_body, true_grown, true_later}

-- what arrived has
arrived-grown : (c : Conversation) (seeds : List (List ℕ)) (epoch : ℕ) (body : Body) (v u : View) → u.side ≡ v.side
    → v.epoch ≤ u.epoch → All (HasArrived c v) v.arrived
    → All (HasArrived (grown c seeds epoch body) u) v.arrived
arrived-grown c seeds epoch body v u side further arrivals =
    All-weaker (HasArrived c v) (HasArrived (grown c seeds epoch body) u)
    (λ p has. record {
      said = is_said-grown c seeds epoch body p has.said;
      peers = ap (λ s. is_own s p.epoch) side ∙ has.peers;
      reached = let before = has.reached in omega arith;
    })
    v.arrived arrivals

-- where a text is the side's own, its outbox has room for the packet
abbrev pub HasRoom : Mechanism → Conversation → Side → View → ℕ → Type 0
HasRoom k c side v epoch = is_own side epoch ≡ true → length (outbox_of k c v) < OUTBOX_LIMIT

-- no packet goes
posts-more : (k : Mechanism) (c : Conversation) (seeds : List (List ℕ)) (epoch : ℕ) (body : Body) (side : Side)
    → SameTurns k c.key c.seeds seeds
    → length c.seeds ≤ epoch + 1 → All (λ s. s.epoch ≤ length c.seeds) c.said
    → length (posts_of k c side) ≤ length (posts_of k (grown c seeds epoch body) side)
posts-more k c seeds epoch body side same late begun =
    let new = if is_own side epoch then post_at k (grown c seeds epoch body) (next_position c.said epoch) ∷ [] else [] in
    omega (
      arith,
      ap length (posts_of-grown k c seeds epoch body side same late begun),
      length-append (posts_of k c side) new,
    )

-- and the outbox has room for one more
packets-more : (k : Mechanism) (c : Conversation) (seeds : List (List ℕ)) (epoch : ℕ) (body : Body) (side : Side)
    (v : View) → SameTurns k c.key c.seeds seeds
    → length c.seeds ≤ epoch + 1 → All (λ s. s.epoch ≤ length c.seeds) c.said → IsLawfulView k c side v
    → HasRoom k c side v epoch
    → length (outbox_of k (grown c seeds epoch body) v) ≤ OUTBOX_LIMIT
packets-more k c seeds epoch body side v same late begun lawful room =
    let d = grown c seeds epoch body in
    let post = post_at k d (next_position c.said epoch) in
    let before : length (outbox_of k c v) ≡ length (posts_of k c side) - v.dropped =
    length-outbox_of k c v ∙ ap (λ s. length (posts_of k c s) - v.dropped) lawful.side_is in
    let behind : length (outbox_of k d v) ≡ length (posts_of k d side) - v.dropped =
    length-outbox_of k d v ∙ ap (λ s. length (posts_of k d s) - v.dropped) lawful.side_is in
    let more : length (posts_of k d side) ≡ length (posts_of k c side) + length
    (if is_own side epoch then post ∷ [] else []) =
    ap length (posts_of-grown k c seeds epoch body side same late begun)
    ∙ length-append (posts_of k c side) (if is_own side epoch then post ∷ [] else []) in
    let fits : length (posts_of k d side) - v.dropped ≤ OUTBOX_LIMIT =
    one_more_fits (length (posts_of k c side)) (length (posts_of k d side)) v.dropped OUTBOX_LIMIT
    post (is_own side epoch) more
    (let few = lawful.few_packets in omega arith) (λ own. let free = room own in omega arith) in
    omega arith

-- what waits in a view, where one text more was said
pub record StillWaits (k : Mechanism) (c : Conversation) (v : View) (awaiting : List Position) : Type 0 where
  pub all : AreWaiting v.side v.epoch (view_phase k c v) awaiting
  pub said : All (λ p. is_said c p ≡ true) awaiting

-- what the side's own receipts say, also that of the new text where it is the side's
true_receipts : (k : Mechanism) (c : Conversation) (seeds : List (List ℕ)) (epoch : ℕ) (body : Body) (side : Side) (v u : View)
    → length c.seeds ≤ length seeds → length c.seeds ≤ epoch + 1 → IsLawfulView k c side v
    → u.arrived ≡ v.arrived → (is_own side epoch ≡ true → IsTrue c v body.receipt) → (p : Position)
    → is_said (grown c seeds epoch body) p ≡ true → is_own side p.epoch ≡ true
    → IsTrue (grown c seeds epoch body) u (receipt_at (grown c seeds epoch body) p)
true_receipts k c seeds epoch body side v u more late lawful same new =
    let d = grown c seeds epoch body in
    let later : (receipt : Option Receipt) → IsTrue c v receipt → IsTrue d u receipt =
    λ receipt is. true_later d v u receipt (λ q opened. ap (list_any (is_at q)) same ∙ opened)
    (true_grown c v receipt seeds epoch body more late is) in
    each_body c seeds epoch body (λ p said. is_own side p.epoch ≡ true → IsTrue d u said.receipt)
    (λ p said own. later (receipt_at c p) (lawful.receipts p said own))
    (λ own. later body.receipt (new own))

-- a view that stays but for what waits, where there may be seeds more
pub view-grown : (k : Mechanism) (c : Conversation) (seeds : List (List ℕ)) (epoch : ℕ) (body : Body) (side : Side)
    (v : View) (awaiting : List Position) → SameTurns k c.key c.seeds seeds
    → length c.seeds ≤ epoch + 1 → All (λ s. s.epoch ≤ length c.seeds) c.said → IsLawfulView k c side v
    → StillWaits k (grown c seeds epoch body) v awaiting → (is_own side epoch ≡ true → IsTrue c v body.receipt)
    → length c.seeds ≤ length seeds
    → HasRoom k c side v epoch → v.epoch ≤ epoch + 1
    → v.epoch ≤ length seeds → length seeds ≤ v.epoch + 1 → (length seeds ≡ v.epoch + 1 → is_own side (v.epoch + 1) ≡ false)
    → IsLawfulView k (grown c seeds epoch body) side (record v { awaiting = awaiting })
view-grown k c seeds epoch body side v awaiting same late begun lawful waiting new more room near reached near_end waits = record {
  side_is = lawful.side_is;
  reached = reached;
  near_end = near_end;
  waits = waits;
  arrivals = arrived-grown c seeds epoch body v (record v { awaiting = awaiting }) refl (omega arith) lawful.arrivals;
  once = lawful.once;
  some = lawful.some;
  near = omega (
    arith,
    ap length (missing_of-waiting (grown c seeds epoch body) v awaiting ∙ missing_of-grown c seeds epoch body v near),
    lawful.near,
  );
  done = lawful.done;
  dropped_fits = omega (arith, lawful.dropped_fits, posts-more k c seeds epoch body side same late begun);
  few_texts = omega (arith, lawful.few_texts, length-inbox_of c v, length-inbox_of (grown c seeds epoch body) v);
  few_packets = packets-more k c seeds epoch body side v same late begun lawful room;
  awaiting = waiting.all;
  awaiting_said = waiting.said;
  receipts = true_receipts k c seeds epoch body side v (record v { awaiting = awaiting }) more late lawful refl new;
}

-- the epoch that it begins is its own
own_turned : (side : Side) (v : View) → v.side ≡ side → is_own v.side v.epoch ≡ false → is_own side (v.epoch + 1) ≡ true
own_turned side v is peers = own_after side v.epoch (ap (λ s. is_own s v.epoch) (sym is) ∙ peers)

-- a peer's epoch up to it was reached before
before_turn : (side : Side) (n epoch : ℕ) → is_own side (n + 1) ≡ true → epoch ≤ n + 1 → is_own side epoch ≡ false
    → epoch ≤ n
before_turn side n epoch own most peers =
    elim (cases_eq epoch (n + 1)) as (λ _. epoch ≤ n) [
      | inl new ↦ absurd (let e : true ≡ false = sym own ∙ ap (is_own side) (sym new) ∙ peers in cc)
      | inr other ↦ grind arith
    ]

-- the view of the side that begins an epoch
pub view-turned : (k : Mechanism) (c : Conversation) (seeds : List (List ℕ)) (body : Body) (side : Side) (v : View)
    → SameTurns k c.key c.seeds seeds
    → All (λ s. s.epoch ≤ length c.seeds) c.said → IsLawfulView k c side v
    → StillWaits k (grown c seeds (v.epoch + 1) body) (after_turn v) (after_turn v).awaiting → IsTrue c v body.receipt
    → is_own v.side v.epoch ≡ false
    → length (outbox_of k c v) < OUTBOX_LIMIT → length c.seeds ≤ v.epoch + 2
    → length seeds ≡ v.epoch + 1 → IsLawfulView k (grown c seeds (v.epoch + 1) body) side (after_turn v)
view-turned k c seeds body side v same begun lawful waiting new peers room late last = record {
  side_is = lawful.side_is;
  reached = omega arith;
  near_end = omega arith;
  waits = λ next. absurd (omega arith);
  arrivals = arrived-grown c seeds (v.epoch + 1) body v (after_turn v) refl (omega arith) lawful.arrivals;
  once = lawful.once;
  some = λ epoch one most others. lawful.some epoch one
      (before_turn side v.epoch epoch (own_turned side v lawful.side_is peers) most others) others;
  near = omega (arith, ap length (missing_of-turned c seeds body v peers), lawful.near);
  done = lawful.done;
  dropped_fits = omega (arith, lawful.dropped_fits, posts-more k c seeds (v.epoch + 1) body side same (omega arith) begun);
  few_texts = omega (
    arith,
    lawful.few_texts,
    length-inbox_of c v,
    length-inbox_of (grown c seeds (v.epoch + 1) body) (after_turn v),
  );
  few_packets = packets-more k c seeds (v.epoch + 1) body side v same (omega arith) begun lawful (λ _. room);
  awaiting = waiting.all;
  awaiting_said = waiting.said;
  receipts = true_receipts k c seeds (v.epoch + 1) body side v (after_turn v) (omega (arith, lawful.reached)) (omega arith)
      lawful refl (λ _. new);
}
