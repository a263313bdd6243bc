-- Texts that wait stay lawful: as one more is said, as a receipt is obeyed, and as the side goes into the peer's epoch.
use Rattle.std.proofs.Common.{◌≡◌, ℕ, ◌+◌, ◌<◌, ◌≤◌, Bool, true, false, List, [], ◌∷◌, ◌++◌, drop, get_or, if◌then◌else◌, length, nat_le, ◌∙◌, not, refl, suc, ap, arith}
use Rattle.std.specs.Prelude.{Option}
use Rattle.std.proofs.lemmas.Bool.Decides.{nat_tests}
use Rattle.std.proofs.lemmas.List.{length-drop, length_push}
use Rattle.std.proofs.lemmas.List.Elements.{All-drop, All-filter, All-nil, All-push, All-weaker}
use Rattle.std.proofs.lemmas.List.Filters.{length-filter_both}
use Rattle.std.proofs.lemmas.List.Kept.{AllPairs-filter}
use Rattle.std.proofs.lemmas.List.Quantifiers.{all_pairs_push}
use Rattle.bodies.specs.Receipts.{Receipt, is_covered}
use Rattle.dr_base.proofs.Parity.{own_next}
use Rattle.dr_base.specs.Position.{IsBefore, is_own, position_at}
use Rattle.dr_base.specs.declared.limits.TheConstants.{AWAITING_LIMIT, INDEX_LIMIT}
use Rattle.dr_base.specs.declared.position.Position.{Position}
use Rattle.dr_base.specs.declared.position.Side.{Side}
use Rattle.session_model.specs.Awaiting.{AreWaiting, IsWaiting, still_waiting, waiting_with}
use Rattle.session_model.specs.States.{Own, Phase, in_own, in_peers}

-- no text waits
pub waiting-none : (side : Side) (epoch : ℕ) (phase : Phase) → AreWaiting side epoch phase []
waiting-none side epoch phase =
    record { each = All-nil _; ascending = λ i j d lt below. absurd (omega arith); few = omega arith }

module _ (side : Side) (epoch later : ℕ) (phase next : Phase) where
  -- what may wait may wait on
  abbrev StayWaiting : Type 0
  StayWaiting = (p : Position) → IsWaiting side epoch phase p → IsWaiting side later next p

  stays : (awaiting : List Position) → StayWaiting → AreWaiting side epoch phase awaiting → AreWaiting side later next awaiting
  stays awaiting stay w = record {
    each = All-weaker (IsWaiting side epoch phase) (IsWaiting side later next) stay awaiting w.each;
    ascending = w.ascending;
    few = w.few;
  }

  -- ---- one more, which comes after each

  -- without the oldest
  fewer : (awaiting : List Position) → AreWaiting side epoch phase awaiting → AreWaiting side epoch phase (drop 1 awaiting)
  fewer [] w = w
  fewer (p ∷ more) w = record {
    each = All-drop (IsWaiting side epoch phase) 1 (p ∷ more) w.each;
    ascending = λ i j d lt below. w.ascending (suc i) (suc j) d (omega arith) (omega arith);
    few = omega (arith, w.few);
  }

  -- what comes after each that may wait
  abbrev ComesAfter : Position → Type 0
  ComesAfter p = (q : Position) → IsWaiting side epoch phase q → IsBefore q p

  module _ (p : Position) (stay : StayWaiting) (waits : IsWaiting side later next p) (after : ComesAfter p) where
    pushed : (awaiting : List Position) → AreWaiting side epoch phase awaiting → length awaiting < AWAITING_LIMIT
        → AreWaiting side later next (awaiting ++ p ∷ [])
    pushed awaiting w room = record {
      each = All-push (IsWaiting side later next) awaiting p (stays awaiting stay w).each waits;
      ascending = all_pairs_push IsBefore awaiting p w.ascending (λ i d inside. after (get_or awaiting i d) (w.each i d inside));
      few = omega (arith, length_push awaiting p);
    }

    within : (awaiting : List Position) (full : Bool) → AreWaiting side epoch phase awaiting
        → nat_le AWAITING_LIMIT (length awaiting) ≡ full
        → AreWaiting side later next ((if full then drop 1 awaiting else awaiting) ++ p ∷ [])
    within awaiting true w is =
        pushed (drop 1 awaiting) (fewer awaiting w) (omega (arith, w.few, length-drop 1 awaiting))
    within awaiting false w is = pushed awaiting w (grind (arith, nat_tests))

    one_more : (awaiting : List Position) → AreWaiting side epoch phase awaiting → AreWaiting side later next (waiting_with awaiting p)
    unfolding waiting_with
    one_more awaiting w = within awaiting (nat_le AWAITING_LIMIT (length awaiting)) w refl

-- the next text of an own epoch
pub waiting-said : (side : Side) (epoch : ℕ) (own next : Own) (awaiting : List Position) → is_own side epoch ≡ true
    → own.sent + 1 ≤ INDEX_LIMIT → next.sent ≡ own.sent + 1 → AreWaiting side epoch (in_own own) awaiting
    → AreWaiting side epoch (in_own next) (waiting_with awaiting (position_at epoch (own.sent + 1)))
waiting-said side epoch own next awaiting mine most on w =
    one_more side epoch epoch (in_own own) (in_own next) (position_at epoch (own.sent + 1))
    (λ q h. record {
      own = h.own;
      reached = h.reached;
      one = h.one;
      most = h.most;
      sent = λ same. omega (arith, h.sent same);
    })
    (record { own = mine; reached = omega arith; one = omega arith; most = most; sent = λ same. omega arith })
    (λ q h. (h.reached, λ same. omega (arith, h.sent same)))
    awaiting w

-- the first text of the next own epoch
pub waiting-turned : (side : Side) (epoch : ℕ) (public : List ℕ) (own : Own) (awaiting : List Position)
    → is_own side epoch ≡ false → 1 ≤ own.sent → AreWaiting side epoch (in_peers public) awaiting
    → AreWaiting side (epoch + 1) (in_own own) (waiting_with awaiting (position_at (epoch + 1) 1))
waiting-turned side epoch public own awaiting peers one w =
    one_more side epoch (epoch + 1) (in_peers public) (in_own own) (position_at (epoch + 1) 1)
    (λ q h. record {
      own = h.own;
      reached = omega (arith, h.reached);
      one = h.one;
      most = h.most;
      sent = λ same. absurd (omega (arith, h.reached));
    })
    (record {
      own = own_next side epoch ∙ ap not peers;
      reached = omega arith;
      one = omega arith;
      most = omega arith;
      sent = λ same. one;
    })
    (λ q h. (omega (arith, h.reached), λ same. absurd (omega (arith, h.reached))))
    awaiting w

-- ---- what a packet changes

-- the peer's next epoch
pub waiting-reached : (side : Side) (epoch later : ℕ) (phase : Phase) (public : List ℕ) (awaiting : List Position)
    → epoch ≤ later → AreWaiting side epoch phase awaiting → AreWaiting side later (in_peers public) awaiting
waiting-reached side epoch later phase public awaiting on w =
    stays side epoch later phase (in_peers public) awaiting
    (λ q h. record { own = h.own; reached = omega (arith, h.reached); one = h.one; most = h.most; sent = tt }) w

-- a receipt
pub waiting-obeyed : (side : Side) (epoch : ℕ) (phase : Phase) (receipt : Option Receipt) (awaiting : List Position)
    → AreWaiting side epoch phase awaiting → AreWaiting side epoch phase (still_waiting receipt awaiting)
unfolding still_waiting
waiting-obeyed side epoch phase receipt awaiting w =
    let waits : Position → Bool = λ p. not (is_covered receipt p) in
    record {
      each = All-filter waits (IsWaiting side epoch phase) awaiting w.each;
      ascending = AllPairs-filter IsBefore waits awaiting w.ascending;
      few = omega (arith, w.few, length-filter_both (is_covered receipt) waits (λ p. refl) awaiting);
    }
