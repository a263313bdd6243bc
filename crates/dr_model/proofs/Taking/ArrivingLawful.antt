-- A packet that arrives leaves a world within the limits.
use Rattle.std.proofs.Common.{◌≡◌, ℕ, ◌+◌, ◌<◌, ◌≤◌, Bool, true, false, nat_le, nat_lt, [], ◌∷◌, ◌++◌, List, Option, length, subst, sym, Ok, Err, inl, inr, refl, ap, ◌∙◌, arith, if◌then◌else◌}
use Rattle.std.specs.Prelude.{All, max, not}
use Rattle.std.proofs.lemmas.Bool.{cases_eq, cases_lt, leb-false}
use Rattle.std.proofs.lemmas.Bool.Decides.{nat_tests}
use Rattle.std.proofs.lemmas.List.{length_push}
use Rattle.std.proofs.lemmas.List.Elements.{All-filter, All-push, All-weaker}
use Rattle.bodies.specs.Receipts.{Receipt, is_covered}
use Rattle.dr_base.specs.declared.limits.TheConstants.{KEPT_LIMIT, INBOX_LIMIT}
use Rattle.dr_base.specs.Position.{is_at, is_own}
use Rattle.dr_base.specs.declared.position.Position.{Position}
use Rattle.dr_base.specs.declared.position.Side.{Side}
use Rattle.dr_base.specs.declared.position.Side.TheVariants.{First, Second}
use Rattle.kem_laws.specs.Mechanism.{Mechanism}
use Rattle.session_model.specs.Awaiting.{AreWaiting, still_waiting}
use Rattle.session_model.specs.States.{Phase}
use Rattle.session_model.proofs.Waiting.{waiting-obeyed, waiting-reached}
use Rattle.session_model.specs.declared.answer.Answer.TheVariants.{Opened}
use Rattle.session_model.specs.declared.answer.Refusal.{Refusal}
use Rattle.session_model.specs.declared.answer.Refusal.TheVariants.{OwnPacket, Spent, SkipLimit, InboxFull}
use Rattle.dr_model.specs.Conversations.Conversation.{Conversation, is_said, receipt_at}
use Rattle.dr_model.specs.Conversations.Lawful.{HasArrived, IsLawfulConversation, IsLawfulView}
use Rattle.dr_model.specs.Conversations.Posts.{turn_of_epoch}
use Rattle.dr_model.specs.Conversations.ViewStates.{view_phase}
use Rattle.dr_model.specs.Conversations.Views.{View, after_opening, has_opened, inbox_of, indices_in, missing_of}
use Rattle.dr_model.specs.Machines.Steps.{Step, settled, step}
use Rattle.dr_model.specs.Machines.Worlds.{World, inbox_in, taking_in, view_of, with_view}
use Rattle.dr_model.specs.Theorems.LawfulWorlds.{IsLawfulWorld}
use Rattle.dr_model.specs.Conversations.Standing.{standing}
use Rattle.dr_model.proofs.Growth.BoxSizes.{length-inbox_of}
use Rattle.dr_model.proofs.Growth.Standing.{last_stands, still_done}
use Rattle.dr_model.proofs.Missing.EpochIndices.{indices_in-other, indices_in-same}
use Rattle.dr_model.proofs.Taking.PacketFields.{IsPlace, is_place}
use Rattle.dr_model.proofs.Receipts.Truth.{true_opening}
use Rattle.dr_model.proofs.Saying.SayingText.{phase_peers}
use Rattle.dr_model.proofs.Worlds.Counted.{count_new}
use Rattle.dr_model.proofs.Worlds.WorldViews.{view_lawful}

-- what arrived before stays within the view
still_arrived : (c : Conversation) (v : View) (p q : Position) → HasArrived c v q → HasArrived c (after_opening c v p) q
still_arrived c v p q arrived = record {
  said = arrived.said;
  peers = arrived.peers;
  reached = omega (arith, arrived.reached);
}

-- a packet that is opened: one of the peer's that wasn't, within the limits
pub record IsTakeable (c : Conversation) (side : Side) (v : View) (p : Position) : Type 0 where
  pub peers : is_own side p.epoch ≡ false
  pub unopened : has_opened v p ≡ false
  pub near : length (missing_of c (after_opening c v p)) ≤ KEPT_LIMIT
  pub room : length (inbox_of c v) < INBOX_LIMIT

-- each peer's epoch that is reached then has one that arrived
some_after : (k : Mechanism) (c : Conversation) (side : Side) (v : View) (p : Position) (epoch : ℕ)
    → IsLawfulView k c side v → p.epoch ≤ v.epoch + 1
    → 1 ≤ epoch → epoch ≤ max v.epoch p.epoch → is_own side epoch ≡ false
    → 1 ≤ length (indices_in (v.arrived ++ p ∷ []) epoch)
some_after k c side v p epoch view near one most peers =
    elim (cases_eq p.epoch epoch) as (λ _. 1 ≤ length (indices_in (v.arrived ++ p ∷ []) epoch)) [
      | inl here ↦ omega (arith, ap length (indices_in-same v.arrived p epoch here), length_push (indices_in v.arrived epoch) p.index)
      | inr other ↦
          let before : epoch ≤ v.epoch = grind arith in
          omega (arith, ap length (indices_in-other v.arrived p epoch other), view.some epoch one before peers)
    ]

-- ---- what waits then

still_all : (P : Position → Type 0) (receipt : Option Receipt) (awaiting : List Position) → All P awaiting
    → All P (still_waiting receipt awaiting)
unfolding still_waiting
still_all P receipt awaiting all = All-filter (λ q. not (is_covered receipt q)) P awaiting all

-- in an epoch that was reached before, or in the peer's next one
awaiting_after : (k : Mechanism) (c : Conversation) (side : Side) (v : View) (p : Position) → IsLawfulView k c side v
    → IsPlace c p → is_own side p.epoch ≡ false
    → AreWaiting v.side (max v.epoch p.epoch) (view_phase k c (after_opening c v p)) (still_waiting (receipt_at c p) v.awaiting)
awaiting_after k c side v p view place peers =
    let obeyed = waiting-obeyed v.side v.epoch (view_phase k c v) (receipt_at c p) v.awaiting view.awaiting in
    let at : ℕ → Type 0 = λ e. AreWaiting v.side e (view_phase k c (record v { epoch = e })) (still_waiting (receipt_at c p) v.awaiting) in
    elim (cases_lt v.epoch p.epoch) as (λ _. at (max v.epoch p.epoch)) [
      | inl later ↦
          let here : max v.epoch p.epoch ≡ p.epoch = omega arith in
          let theirs = ap (λ s. is_own s p.epoch) view.side_is ∙ peers in
          subst at (sym here)
          (subst (λ (phase : Phase). AreWaiting v.side p.epoch phase (still_waiting (receipt_at c p) v.awaiting))
          (sym (phase_peers k c (record v { epoch = p.epoch }) theirs))
          (waiting-reached v.side v.epoch p.epoch (view_phase k c v) (turn_of_epoch k c p.epoch).public
          (still_waiting (receipt_at c p) v.awaiting) (omega arith) obeyed))
      | inr before ↦
          let here : max v.epoch p.epoch ≡ v.epoch = omega arith in
          subst at (sym here) obeyed
    ]

-- a view with a peer's packet more
pub lawful_after : (k : Mechanism) (c : Conversation) (side : Side) (v : View) (p : Position) → IsLawfulConversation k c
    → IsLawfulView k c side v → is_said c p ≡ true
    → IsTakeable c side v p → IsLawfulView k c side (after_opening c v p)
lawful_after k c side v p lawful view said takes =
    let place = is_place k c p lawful said in
    record {
      side_is = view.side_is;
      reached = omega (arith, view.reached, place.began);
      near_end = omega (arith, view.near_end);
      waits = λ waits.
          let same : max v.epoch p.epoch ≡ v.epoch = omega (arith, view.near_end, place.began) in
          ap (λ epoch. is_own side (epoch + 1)) same ∙ view.waits (waits ∙ ap (λ epoch. epoch + 1) same);
      arrivals = All-push (HasArrived c (after_opening c v p)) v.arrived p
          (All-weaker (HasArrived c v) (HasArrived c (after_opening c v p)) (still_arrived c v p) v.arrived view.arrivals)
          (record { said = said; peers = ap (λ s. is_own s p.epoch) view.side_is ∙ takes.peers; reached = omega arith });
      once = λ q. count_new v.arrived p q (is_at q p) refl takes.unopened (view.once q);
      some = λ epoch one most peers. some_after k c side v p epoch view
          (omega (arith, place.began, view.near_end)) one most peers;
      near = takes.near;
      done = still_done v.arrived v.done p view.done;
      dropped_fits = view.dropped_fits;
      few_texts = omega (
        arith,
        length-inbox_of c v,
        length-inbox_of c (after_opening c v p),
        ap length (last_stands v.arrived v.done p view.done takes.unopened),
        length_push (standing v.arrived v.done) p,
        takes.room,
      );
      few_packets = view.few_packets;
      awaiting = awaiting_after k c side v p view place takes.peers;
      awaiting_said = still_all (λ q. is_said c q ≡ true) (receipt_at c p) v.awaiting view.awaiting_said;
      receipts = λ q said own. true_opening c v (receipt_at c q) p (view.receipts q said own);
    }

-- a world with a lawful view
pub with_lawful : (k : Mechanism) (w : World) (side : Side) (v : View) → IsLawfulWorld k w
    → IsLawfulView k w.conversation side v → IsLawfulWorld k (with_view w side v)
with_lawful k w First v lawful view =
    record { conversation = lawful.conversation; first = view; second = lawful.second; given = lawful.given }
with_lawful k w Second v lawful view =
    record { conversation = lawful.conversation; first = lawful.first; second = view; given = lawful.given }

-- a refusal leaves the world as it is
taken_lawful : (k : Mechanism) (w : World) (own old far full : Bool) (p q r t : Refusal) (next : Step World)
    → IsLawfulWorld k w
    → (own ≡ false → old ≡ false → far ≡ false → full ≡ false → IsLawfulWorld k next.next)
    → IsLawfulWorld k (settled w (if own then Err p else (if old then Err q else (if far then Err r else (if full then Err t else Ok next))))).next
taken_lawful k w true old far full p q r t next lawful h = lawful
taken_lawful k w false true far full p q r t next lawful h = lawful
taken_lawful k w false false true full p q r t next lawful h = lawful
taken_lawful k w false false false true p q r t next lawful h = lawful
taken_lawful k w false false false false p q r t next lawful h = h refl refl refl refl

-- few enough are missing
few_missing : (n : ℕ) → nat_lt KEPT_LIMIT n ≡ false → n ≤ KEPT_LIMIT
few_missing n h = grind (arith, nat_tests)

-- a side takes the packet of a text
pub lawful_taking : (k : Mechanism) (w : World) (side : Side) (p : Position) → IsLawfulWorld k w
    → is_said w.conversation p ≡ true → IsLawfulWorld k (settled w (taking_in w side p)).next
lawful_taking k w side p lawful said =
    let c = w.conversation in
    let opened = after_opening w.conversation (view_of w side) p in
    let missing = length (missing_of c opened) in
    taken_lawful k w (is_own side p.epoch) (has_opened (view_of w side) p) (nat_lt KEPT_LIMIT missing)
    (nat_le INBOX_LIMIT (length (inbox_in w side))) (OwnPacket p.epoch) (Spent p) (SkipLimit missing) InboxFull
    (step (Opened p) (with_view w side opened)) lawful
    (λ peers new near room. with_lawful k w side opened lawful
    (lawful_after k c side (view_of w side) p lawful.conversation (view_lawful k w side lawful) said
    (record {
      peers = peers;
      unopened = new;
      near = few_missing missing near;
      room = leb-false INBOX_LIMIT (length (inbox_in w side)) room;
    })))
