-- The positions that a view misses: peer's ones, up to where each epoch was read, in ascending order.
use Rattle.std.proofs.Common.{◌≡◌, ℕ, zero, suc, ◌+◌, ◌<◌, ◌≤◌, ◌==◌, true, false, Bool, nat_le, List, [], ◌∷◌, ◌++◌, filter, map, refl, sym, ◌∙◌, subst, if◌then◌else◌, arith}
use Rattle.std.specs.Prelude.{All, AllPairs, slice_index_or}
use Rattle.std.proofs.lemmas.Bool.{eqb-true}
use Rattle.std.proofs.lemmas.List.Elements.{All-append, All-cons, All-filter, All-head, All-map, All-nil, All-tail, All-weaker, filter_passes}
use Rattle.std.proofs.lemmas.List.Kept.{AllPairs-cons}
use Rattle.dr_base.specs.Position.{IsBefore, is_own}
use Rattle.dr_base.specs.declared.position.Position.{Position}
use Rattle.dr_model.specs.Conversations.Conversation.{Conversation, count_of}
use Rattle.dr_model.specs.Conversations.Indices.{is_among, missing_to, reach}
use Rattle.dr_model.specs.Conversations.Lawful.{HasArrived}
use Rattle.dr_model.specs.Conversations.Views.{View, has_opened, indices_in, reach_in, missing_in, missing_below}
use Rattle.dr_model.proofs.Growth.Growing.{said_to}
use Rattle.dr_model.proofs.Growth.GrowingViews.{IsBelow, missing_below-below}
use Rattle.dr_model.proofs.Missing.EpochIndices.{is_among-indices}

-- ---- pairs of elements, in their order

pairs_nil : {X : Type 0} (R : X → X → Type 0) → AllPairs R []
pairs_nil R i j d lt below = absurd (omega arith)

pairs_head : {X : Type 0} (R : X → X → Type 0) (x : X) (xs : List X) → AllPairs R (x ∷ xs) → All (R x) xs
pairs_head R x xs pairs k d below = pairs 0 (suc k) d (omega arith) (omega arith)

pairs_tail : {X : Type 0} (R : X → X → Type 0) (x : X) (xs : List X) → AllPairs R (x ∷ xs) → AllPairs R xs
pairs_tail R x xs pairs i j d lt below = pairs (suc i) (suc j) d (omega arith) (omega arith)

-- of two lists, where each of the first goes with each of the second
pub AllPairs-append : {X : Type 0} (R : X → X → Type 0) (xs ys : List X) → AllPairs R xs → AllPairs R ys
    → All (λ x. All (R x) ys) xs → AllPairs R (xs ++ ys)
AllPairs-append R [] ys first second cross = second
AllPairs-append R (x ∷ xs) ys first second cross =
    AllPairs-cons R x (xs ++ ys)
    (All-append (R x) xs ys (pairs_head R x xs first) (All-head (λ x. All (R x) ys) x xs cross))
    (AllPairs-append R xs ys (pairs_tail R x xs first) second (All-tail (λ x. All (R x) ys) x xs cross))

-- of what a function gives
pub AllPairs-map : {X Y : Type 0} (R : Y → Y → Type 0) (f : X → Y) (xs : List X) → AllPairs (λ a b. R (f a) (f b)) xs
    → AllPairs R (map f xs)
AllPairs-map R f [] pairs = pairs_nil R
AllPairs-map R f (x ∷ xs) pairs =
    AllPairs-cons R (f x) (map f xs)
    (All-map (R (f x)) f xs (pairs_head (λ a b. R (f a) (f b)) x xs pairs))
    (AllPairs-map R f xs (pairs_tail (λ a b. R (f a) (f b)) x xs pairs))

-- ---- how far an epoch was read

-- no further than the greatest
pub reach-most : (xs : List ℕ) (most : ℕ) → All (λ i. i ≤ most) xs → reach xs ≤ most
unfolding reach
reach-most [] most h = omega arith
reach-most (i ∷ rest) most h =
    let first = All-head (λ i. i ≤ most) i rest h in
    let others = reach-most rest most (All-tail (λ i. i ≤ most) i rest h) in
    omega arith

-- the indices that arrived are of texts
index_said : (c : Conversation) (v : View) (t : ℕ) (p : Position) → HasArrived c v p → (p.epoch == t) ≡ true
    → p.index ≤ count_of c t
index_said c v t p has here =
    subst (λ e. p.index ≤ count_of c e) (eqb-true p.epoch t here) (said_to p.index (count_of c p.epoch) has.said)

indices-said : (c : Conversation) (v : View) (t : ℕ) → All (HasArrived c v) v.arrived
    → All (λ i. i ≤ count_of c t) (indices_in v.arrived t)
indices-said c v t arrivals =
    let test : Position → Bool = λ p. p.epoch == t in
    All-map (λ i. i ≤ count_of c t) (λ (p : Position). p.index) (filter test v.arrived)
    (λ i d below. index_said c v t (slice_index_or (filter test v.arrived) i d)
    (All-filter test (HasArrived c v) v.arrived arrivals i d below) (filter_passes test v.arrived i d below))

-- no further than to its end
reach_within : (r n : ℕ) (latest : Bool) → r ≤ n → (if latest then r else n) ≤ n
reach_within r n true h = h
reach_within r n false h = omega arith

pub reach_in-most : (c : Conversation) (v : View) (t : ℕ) → All (HasArrived c v) v.arrived → reach_in c v t ≤ count_of c t
reach_in-most c v t arrivals =
    reach_within (reach (indices_in v.arrived t)) (count_of c t) (nat_le v.epoch (t + 1))
    (reach-most (indices_in v.arrived t) (count_of c t) (indices-said c v t arrivals))

-- ---- what is missing

-- indices from 1 to the last one
abbrev IsUpTo : ℕ → ℕ → Type 0
IsUpTo n i = (1 ≤ i) × (i ≤ n)

unless_upto : (n : ℕ) (among : Bool) → All (IsUpTo (suc n)) (if among then [] else suc n ∷ [])
unless_upto n true = All-nil (IsUpTo (suc n))
unless_upto n false = All-cons (IsUpTo (suc n)) (suc n) [] (omega arith, omega arith) (All-nil (IsUpTo (suc n)))

missing_to-upto : (arrived : List ℕ) (n : ℕ) → All (IsUpTo n) (missing_to arrived n)
unfolding missing_to
missing_to-upto arrived zero = All-nil (IsUpTo 0)
missing_to-upto arrived (suc n) =
    All-append (IsUpTo (suc n)) (missing_to arrived n) (if is_among arrived (suc n) then [] else suc n ∷ [])
    (All-weaker (IsUpTo n) (IsUpTo (suc n)) (λ i h. (h.0, omega arith)) (missing_to arrived n) (missing_to-upto arrived n))
    (unless_upto n (is_among arrived (suc n)))

-- that didn't arrive
unless_among : (arrived : List ℕ) (n : ℕ) (among : Bool) → is_among arrived n ≡ among
    → All (λ i. is_among arrived i ≡ false) (if among then [] else n ∷ [])
unless_among arrived n true is = All-nil (λ i. is_among arrived i ≡ false)
unless_among arrived n false is =
    All-cons (λ i. is_among arrived i ≡ false) n [] is (All-nil (λ i. is_among arrived i ≡ false))

missing_to-among : (arrived : List ℕ) (n : ℕ) → All (λ i. is_among arrived i ≡ false) (missing_to arrived n)
unfolding missing_to
missing_to-among arrived zero = All-nil (λ i. is_among arrived i ≡ false)
missing_to-among arrived (suc n) =
    All-append (λ i. is_among arrived i ≡ false) (missing_to arrived n) (if is_among arrived (suc n) then [] else suc n ∷ [])
    (missing_to-among arrived n) (unless_among arrived (suc n) (is_among arrived (suc n)) refl)

-- each is below all later ones
unless_pairs : (n : ℕ) (among : Bool) → AllPairs (λ a b. a < b) (if among then [] else suc n ∷ [])
unless_pairs n true = pairs_nil (λ a b. a < b)
unless_pairs n false = AllPairs-cons (λ a b. a < b) (suc n) [] (All-nil (λ b. suc n < b)) (pairs_nil (λ a b. a < b))

unless_more : (n : ℕ) (among : Bool) → All (λ b. n < b) (if among then [] else suc n ∷ [])
unless_more n true = All-nil (λ b. n < b)
unless_more n false = All-cons (λ b. n < b) (suc n) [] (omega arith) (All-nil (λ b. n < b))

missing_to-ascending : (arrived : List ℕ) (n : ℕ) → AllPairs (λ a b. a < b) (missing_to arrived n)
unfolding missing_to
missing_to-ascending arrived zero = pairs_nil (λ a b. a < b)
missing_to-ascending arrived (suc n) =
    let last = if is_among arrived (suc n) then [] else suc n ∷ [] in
    AllPairs-append (λ a b. a < b) (missing_to arrived n) last (missing_to-ascending arrived n)
    (unless_pairs n (is_among arrived (suc n)))
    (All-weaker (IsUpTo n) (λ a. All (λ b. a < b) last)
    (λ a upto. All-weaker (λ b. n < b) (λ b. a < b) (λ b more. omega arith) last (unless_more n (is_among arrived (suc n))))
    (missing_to arrived n) (missing_to-upto arrived n))

-- a missed position of a view
pub record IsMissed (c : Conversation) (v : View) (p : Position) : Type 0 where
  pub peers : is_own v.side p.epoch ≡ false
  pub one : 1 ≤ p.index
  pub most : p.index ≤ reach_in c v p.epoch
  pub unopened : has_opened v p ≡ false

missed_in : (c : Conversation) (v : View) (t : ℕ) (own : Bool) → is_own v.side t ≡ own
    → All (IsMissed c v) (if own then [] else missing_in c v t)
missed_in c v t true is = All-nil (IsMissed c v)
missed_in c v t false is =
    All-map (IsMissed c v) (λ index. record { epoch = t; index = index })
    (missing_to (indices_in v.arrived t) (reach_in c v t))
    (λ i d below.
    let upto = missing_to-upto (indices_in v.arrived t) (reach_in c v t) i d below in
    record {
      peers = is;
      one = upto.0;
      most = upto.1;
      unopened = sym (is_among-indices v.arrived
          (record { epoch = t; index = slice_index_or (missing_to (indices_in v.arrived t) (reach_in c v t)) i d }))
          ∙ missing_to-among (indices_in v.arrived t) (reach_in c v t) i d below;
    })

pub missing_below-missed : (c : Conversation) (v : View) (n : ℕ) → All (IsMissed c v) (missing_below c v n)
unfolding missing_below
missing_below-missed c v zero = All-nil (IsMissed c v)
missing_below-missed c v (suc n) =
    All-append (IsMissed c v) (missing_below c v n) (if is_own v.side n then [] else missing_in c v n)
    (missing_below-missed c v n) (missed_in c v n (is_own v.side n) refl)

-- ---- their order

-- those of one epoch
ascending_in : (c : Conversation) (v : View) (t : ℕ) (own : Bool) → AllPairs IsBefore (if own then [] else missing_in c v t)
ascending_in c v t true = pairs_nil IsBefore
ascending_in c v t false =
    AllPairs-map IsBefore (λ index. record { epoch = t; index = index })
    (missing_to (indices_in v.arrived t) (reach_in c v t))
    (λ i j d lt below. (omega arith, λ _. missing_to-ascending (indices_in v.arrived t) (reach_in c v t) i j d lt below))

-- they are of that epoch
epoch_in : (c : Conversation) (v : View) (t : ℕ) (own : Bool) → All (λ p. t ≤ p.epoch) (if own then [] else missing_in c v t)
epoch_in c v t true = All-nil (λ (p : Position). t ≤ p.epoch)
epoch_in c v t false =
    All-map (λ (p : Position). t ≤ p.epoch) (λ index. record { epoch = t; index = index })
    (missing_to (indices_in v.arrived t) (reach_in c v t))
    (λ i d below. omega arith)

before_later : (p q : Position) (t : ℕ) → p.epoch < t → t ≤ q.epoch → IsBefore p q
before_later p q t earlier later = (omega arith, λ same. absurd (omega arith))

pub missing_below-ascending : (c : Conversation) (v : View) (n : ℕ) → AllPairs IsBefore (missing_below c v n)
unfolding missing_below
missing_below-ascending c v zero = pairs_nil IsBefore
missing_below-ascending c v (suc n) =
    let last = if is_own v.side n then [] else missing_in c v n in
    AllPairs-append IsBefore (missing_below c v n) last (missing_below-ascending c v n)
    (ascending_in c v n (is_own v.side n))
    (All-weaker (IsBelow n) (λ p. All (IsBefore p) last)
    (λ p earlier. All-weaker (λ q. n ≤ q.epoch) (IsBefore p) (λ q later. before_later p q n earlier later) last
    (epoch_in c v n (is_own v.side n)))
    (missing_below c v n) (missing_below-below c v n))
