-- The indices that arrived, with one more.
use Rattle.std.proofs.Common.{◌≡◌, ◌≢◌, ℕ, ◌<◌, ◌≤◌, ◌||◌, Bool, true, false, nat_eq, List, [], ◌∷◌, ◌++◌, refl, ap, ◌∙◌, arith}
use Rattle.std.specs.Prelude.{max}
use Rattle.std.proofs.lemmas.Bool.{or_left, or_right, eq-eqb, ne_eqb}
use Rattle.std.proofs.lemmas.Bool.Decides.{nat_tests}
use Rattle.std.proofs.lemmas.List.Folds.{list_any-append}
use Rattle.dr_model.specs.Conversations.Indices.{is_among, reach}

-- a test that fails adds nothing
or_false : (a b : Bool) → b ≡ false → (a || (b || false)) ≡ a
or_false true b h = refl
or_false false true h = h
or_false false false h = refl

-- the new index is among them
pub is_among-last : (arrived : List ℕ) (i : ℕ) → is_among (arrived ++ i ∷ []) i ≡ true
is_among-last arrived i =
    list_any-append (λ k. nat_eq k i) arrived (i ∷ [])
    ∙ or_right (is_among arrived i) (nat_eq i i || false) (or_left (nat_eq i i) false (eq-eqb i i refl))

-- the others are among them if they were
pub is_among-other : (arrived : List ℕ) (i k : ℕ) → k ≢ i → is_among (arrived ++ i ∷ []) k ≡ is_among arrived k
is_among-other arrived i k other =
    list_any-append (λ j. nat_eq j k) arrived (i ∷ [])
    ∙ or_false (is_among arrived k) (nat_eq i k) (ne_eqb i k (λ same. other (omega arith)))

-- the greatest index
pub reach-push : (arrived : List ℕ) (i : ℕ) → reach (arrived ++ i ∷ []) ≡ max (reach arrived) i
unfolding reach
reach-push [] i = omega arith
reach-push (k ∷ rest) i =
    ap (max k) (reach-push rest i) ∙ omega arith

-- one index before the others
among_step : (j k r : ℕ) (a : Bool) → (a ≡ true → k ≤ r) → (nat_eq j k || a) ≡ true → k ≤ max j r
among_step j k r a least h = grind (arith, nat_tests)

-- it is at least each that arrived
pub reach-greatest : (arrived : List ℕ) (k : ℕ) → is_among arrived k ≡ true → k ≤ reach arrived
unfolding reach
reach-greatest [] k h = cc
reach-greatest (j ∷ rest) k h = among_step j k (reach rest) (is_among rest k) (reach-greatest rest k) h

-- what would be too great is false
not_true : (b : Bool) (k r : ℕ) → (b ≡ true → k ≤ r) → r < k → b ≡ false
not_true true k r least h = absurd (omega (arith, least refl))
not_true false k r least h = refl

-- what is greater hasn't arrived
pub is_among-beyond : (arrived : List ℕ) (k : ℕ) → reach arrived < k → is_among arrived k ≡ false
is_among-beyond arrived k h = not_true (is_among arrived k) k (reach arrived) (reach-greatest arrived k) h
