-- The view of a side that has opened all, and whose boxes are empty.
use Rattle.std.proofs.Common.{◌≡◌, ℕ, ◌+◌, ◌≤◌, Bool, true, false, not, cond, List, [], ◌∷◌, length, count_by, filter, inl, inr, refl, subst, sym, ◌∙◌, ap, ap₂, arith, if◌then◌else◌}
use Rattle.std.specs.List.{list_any}
use Rattle.std.specs.Prelude.{All, Option, Some, None}
use Rattle.std.proofs.lemmas.Bool.{cases_Bool, cond-true, le-leb, not-true, and_from}
use Rattle.std.proofs.lemmas.Bool.Decides.{nat_tests}
use Rattle.std.proofs.lemmas.List.Elements.{All-filter, All-head, All-nil, filter_passes}
use Rattle.std.proofs.lemmas.List.Sums.{sum_by-cons}
use Rattle.bodies.specs.Lawful.{IsReceiptOrNone}
use Rattle.bodies.specs.Receipts.{Receipt, is_covered, is_covered_by}
use Rattle.dr_base.specs.Position.{is_at, is_own, peer_of}
use Rattle.dr_base.specs.declared.position.Position.{Position}
use Rattle.dr_base.specs.declared.position.Side.{Side}
use Rattle.dr_base.specs.declared.position.Side.TheVariants.{First, Second}
use Rattle.dr_base.proofs.Positions.{is_at-same}
use Rattle.kem_laws.specs.Mechanism.{Mechanism}
use Rattle.dr_model.specs.Conversations.Conversation.{Conversation, count_of, is_said, positions, receipt_at}
use Rattle.dr_model.specs.Conversations.Indices.{is_among}
use Rattle.dr_model.specs.Conversations.Lawful.{HasArrived, IsLawfulConversation, IsLawfulView}
use Rattle.dr_model.specs.Conversations.Posts.{posts_of}
use Rattle.dr_model.specs.Conversations.Receipts.{IsTrue}
use Rattle.dr_model.specs.Conversations.ViewStates.{view_phase}
use Rattle.dr_model.specs.Conversations.Views.{View, has_opened, indices_in, missing_of, times_opened}
use Rattle.dr_model.specs.Machines.Worlds.{positions_of_peer}
use Rattle.dr_model.proofs.Growth.BoxSizes.{length-inbox_of, length-outbox_of}
use Rattle.dr_model.proofs.Growth.Apart.{apart_once}
use Rattle.dr_model.proofs.Growth.Standing.{all_done, none_stands}
use Rattle.dr_model.proofs.Growth.Growing.{positions-said, said-begun}
use Rattle.dr_model.proofs.Missing.EpochIndices.{is_among-indices}
use Rattle.dr_model.proofs.Missing.MissedPositions.{IsMissed, missing_below-missed, reach_in-most}
use Rattle.dr_model.proofs.Receipts.Truth.{covered_up}
use Rattle.dr_model.proofs.Saying.OwnSide.{own_side}
use Rattle.session_model.proofs.Waiting.{waiting-none}
use Rattle.dr_model.proofs.Taking.AllPositions.{count-said}
use Rattle.dr_model.proofs.Worlds.Counted.{count_by-none}

abbrev pub full_view : Mechanism → Conversation → Side → View
full_view k c side = record {
  side = side;
  epoch = length c.seeds;
  arrived = positions_of_peer c side;
  done = positions_of_peer c side;
  dropped = length (posts_of k c side);
  awaiting = [];
  keyed = true;
}

-- ---- how often a position has arrived

-- as often as it stands among all, if it passes the test, and else never
count_kept : (f : Position → Bool) (p q : Position) (xs ys : List Position) (at pass : Bool) → is_at p q ≡ at → f q ≡ pass
    → f p ≡ true
    → count_by (is_at p) xs ≡ count_by (is_at p) ys
    → count_by (is_at p) (cond pass (q ∷ xs) xs) ≡ cond at 1 0 + count_by (is_at p) ys
count_kept f p q xs ys at true is passes fits same =
    sum_by-cons (λ y. cond (is_at p y) 1 0) q xs ∙ ap₂ (λ b n. cond b 1 0 + n) is same
count_kept f p q xs ys true false is passes fits same =
    absurd (let e : true ≡ false = sym fits ∙ ap f (sym (is_at-same p q is)) ∙ passes in cc)
count_kept f p q xs ys false false is passes fits same = omega arith

count_filter : (f : Position → Bool) (p : Position) (ps : List Position) → f p ≡ true
    → count_by (is_at p) (filter f ps) ≡ count_by (is_at p) ps
count_filter f p [] fits = refl
count_filter f p (q ∷ ps) fits =
    count_kept f p q (filter f ps) ps (is_at p q) (f q) refl refl fits (count_filter f p ps fits)
    ∙ sym (sum_by-cons (λ y. cond (is_at p y) 1 0) q ps)

count_other : (f : Position → Bool) (p q : Position) (xs : List Position) (at pass : Bool) → is_at p q ≡ at → f q ≡ pass
    → f p ≡ false
    → count_by (is_at p) xs ≡ 0 → count_by (is_at p) (cond pass (q ∷ xs) xs) ≡ 0
count_other f p q xs at false is passes fails none = none
count_other f p q xs true true is passes fails none =
    absurd (let e : false ≡ true = sym fails ∙ ap f (sym (is_at-same p q is)) ∙ passes in cc)
count_other f p q xs false true is passes fails none =
    sum_by-cons (λ y. cond (is_at p y) 1 0) q xs ∙ ap₂ (λ b n. cond b 1 0 + n) is none

count_failing : (f : Position → Bool) (p : Position) (ps : List Position) → f p ≡ false
    → count_by (is_at p) (filter f ps) ≡ 0
count_failing f p [] fails = refl
count_failing f p (q ∷ ps) fails =
    count_other f p q (filter f ps) (is_at p q) (f q) refl refl fails (count_failing f p ps fails)

once_by : (said : Bool) → (if said then 1 else 0) ≤ 1
once_by true = omega arith
once_by false = omega arith

opened_once : (k : Mechanism) (c : Conversation) (side : Side) (p : Position) → times_opened (full_view k c side) p ≤ 1
opened_once k c side p =
    let test : Position → Bool = λ q. not (is_own side q.epoch) in
    elim (cases_Bool (not (is_own side p.epoch))) as (λ _. times_opened (full_view k c side) p ≤ 1) [
      | inl fits ↦
          let few = once_by (is_said c p) in
          omega (arith, count_filter test p (positions c) fits, count-said c p, few)
      | inr fails ↦ omega (arith, count_failing test p (positions c) fails)
    ]

-- ---- each text of the peer's has arrived

-- what is counted stands there
counted_there : (ps : List Position) (p : Position) (there : Bool) → list_any (is_at p) ps ≡ there
    → count_by (is_at p) ps ≡ 1 → there ≡ true
counted_there ps p true is one = refl
counted_there ps p false is one = absurd (let none = count_by-none (is_at p) ps is in omega arith)

opened_all : (k : Mechanism) (c : Conversation) (side : Side) (p : Position) → is_said c p ≡ true
    → is_own side p.epoch ≡ false
    → has_opened (full_view k c side) p ≡ true
opened_all k c side p said peers =
    counted_there (positions_of_peer c side) p (has_opened (full_view k c side) p) refl
    (count_filter (λ q. not (is_own side q.epoch)) p (positions c) (ap not peers)
    ∙ count-said c p ∙ cond-true (is_said c p) 1 0 said)

-- a list in which something stands isn't empty
among_some : (is : List ℕ) (i : ℕ) → is_among is i ≡ true → 1 ≤ length is
among_some [] i h = cc
among_some (j ∷ is) i h = omega arith

some_arrived : (k : Mechanism) (c : Conversation) (side : Side) (epoch : ℕ) → 1 ≤ count_of c epoch
    → is_own side epoch ≡ false
    → 1 ≤ length (indices_in (positions_of_peer c side) epoch)
some_arrived k c side epoch some peers =
    let first : Position = record { epoch = epoch; index = 1 } in
    let said : is_said c first ≡ true = le-leb 1 (count_of c epoch) some in
    among_some (indices_in (positions_of_peer c side) epoch) 1
    (is_among-indices (positions_of_peer c side) first ∙ opened_all k c side first said peers)

-- ---- nothing is missing

not_missed : (k : Mechanism) (c : Conversation) (side : Side) (p : Position)
    → All (HasArrived c (full_view k c side)) (positions_of_peer c side)
    → IsMissed c (full_view k c side) p → ⊥
not_missed k c side p arrivals missed =
    let most = reach_in-most c (full_view k c side) p.epoch arrivals in
    let said : is_said c p ≡ true = and_from _ _ (le-leb 1 p.index missed.one)
    (le-leb p.index (count_of c p.epoch) (omega (arith, missed.most))) in
    let e : true ≡ false = sym (opened_all k c side p said missed.peers) ∙ missed.unopened in cc

none_left : {X : Type 0} (P : X → Type 0) (xs : List X) → All P xs → ((x : X) → P x → ⊥) → length xs ≡ 0
none_left P [] all never = refl
none_left P (x ∷ xs) all never = absurd (never x (All-head P x xs all))

-- ---- it is lawful

arrived : (k : Mechanism) (c : Conversation) (side : Side) → IsLawfulConversation k c
    → All (HasArrived c (full_view k c side)) (positions_of_peer c side)
arrived k c side lawful i d below =
    let test : Position → Bool = λ q. not (is_own side q.epoch) in
    let said = All-filter test (λ q. is_said c q ≡ true) (positions c) (positions-said c) i d below in
    let passes = filter_passes test (positions c) i d below in
    record {
      said = said;
      peers = not-true _ passes;
      reached = said-begun c (length c.seeds) _ lawful.begun said;
    }

-- what a receipt for a side covers are its texts
covered_others : (side : Side) (r : Receipt) (q : Position) → is_own (peer_of side) r.bound.epoch ≡ true
    → is_covered_by r q ≡ true → is_own side q.epoch ≡ false
covered_others First r q own covered = let same = (covered_up r q covered).0 in grind (arith, nat_tests)
covered_others Second r q own covered = let same = (covered_up r q covered).0 in grind (arith, nat_tests)

covers_opened : (k : Mechanism) (c : Conversation) (side : Side) (receipt : Option Receipt)
    → IsReceiptOrNone (peer_of side) receipt → (q : Position) → is_said c q ≡ true → is_covered receipt q ≡ true
    → has_opened (full_view k c side) q ≡ true
covers_opened k c side None lawful q said covered = cc
covers_opened k c side (Some r) lawful q said covered =
    opened_all k c side q said (covered_others side r q lawful.listed.own covered)

true_receipts : (k : Mechanism) (c : Conversation) (side : Side) → IsLawfulConversation k c → (p : Position)
    → is_said c p ≡ true → is_own side p.epoch ≡ true → IsTrue c (full_view k c side) (receipt_at c p)
true_receipts k c side lawful p said own = record {
  bounded = lawful.bounded p said;
  opened = covers_opened k c side (receipt_at c p)
      (subst (λ (s : Side). IsReceiptOrNone (peer_of s) (receipt_at c p)) (own_side side p.epoch own)
      (lawful.bodies p said).receipt);
}

pub full_lawful : (k : Mechanism) (c : Conversation) (side : Side) → IsLawfulConversation k c
    → IsLawfulView k c side (full_view k c side)
full_lawful k c side lawful =
    let v = full_view k c side in
    let arrivals = arrived k c side lawful in
    record {
      side_is = refl;
      reached = omega arith;
      near_end = omega arith;
      waits = λ next. absurd (omega arith);
      arrivals = arrivals;
      once = opened_once k c side;
      some = λ epoch one most peers. some_arrived k c side epoch (lawful.some epoch one most) peers;
      near = omega (
        arith,
        none_left (IsMissed c v) (missing_of c v) (missing_below-missed c v (v.epoch + 1))
            (λ p missed. not_missed k c side p arrivals missed),
      );
      done = all_done (positions_of_peer c side) (apart_once (positions_of_peer c side) (opened_once k c side));
      dropped_fits = omega arith;
      few_texts = omega (arith, length-inbox_of c v, ap length (none_stands (positions_of_peer c side)));
      few_packets = omega (arith, length-outbox_of k c v);
      awaiting = waiting-none side (length c.seeds) (view_phase k c v);
      awaiting_said = All-nil (λ p. is_said c p ≡ true);
      receipts = true_receipts k c side lawful;
    }
