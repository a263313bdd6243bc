-- What lies in none of a relay's areas, over two moments.
use Rattle.std.proofs.Common.{◌≢◌, inl, inr, ⊎_elim, ℕ, ◌<◌, ◌≤◌, List, refl, ◌∙◌, arith}
use Rattle.std.proofs.lemmas.Bool.{cases_lt}
use Rattle.slot_store.specs.Areas.{IsInArea, IsOutsideArea, IsSameOutsideArea}
use Rattle.slot_store.proofs.Rows.{IsBesideLower, IsBesideUpper, IsInLower, IsInUpper, is_outside, is_within}
use Rattle.relay_core.specs.declared.limits.TheConstants.{RELAY_LIMIT}
use Rattle.relay_server.specs.Places.{SameBehind, area_of}

-- two areas have no place in common: the lower half of the one lies beside both halves of the other, and so does the upper one
module _ (j k i : ℕ) (few_j : j < RELAY_LIMIT) (few_k : k < RELAY_LIMIT) (other : j ≢ k) where
  lower_beside : IsInLower (area_of j) i → IsBesideLower (area_of k) i × IsBesideUpper (area_of k) i
  lower_beside here = (
    elim (cases_lt j k) [
      | inl below ↦ inl (omega (arith, below, here.2))
      | inr above ↦ inr (inr (omega (arith, above, other, here.0)))
    ],
    inl (omega (arith, few_j, here.2)),
  )

  upper_beside : IsInUpper (area_of j) i → IsBesideLower (area_of k) i × IsBesideUpper (area_of k) i
  upper_beside here = (
    inr (inr (omega (arith, few_k, here.0))),
    elim (cases_lt j k) [
      | inl below ↦ inl (omega (arith, below, here.1))
      | inr above ↦ inr (omega (arith, above, other, here.0))
    ],
  )

  pub area_apart : IsInArea (area_of j) i → IsOutsideArea (area_of k) i
  area_apart inside =
      let beside = ⊎_elim lower_beside upper_beside (is_within (area_of j) (omega arith) i inside) in
      is_outside (area_of k) (omega arith) i beside.0 beside.1

pub behind_self : (n : ℕ) (d : List ℕ) → SameBehind n d d
behind_self n d = record { size = refl; outside = λ i out. refl }

pub behind_twice : (n : ℕ) (d e c : List ℕ) → SameBehind n d e → SameBehind n e c → SameBehind n d c
behind_twice n d e c first next = record {
  size = next.size ∙ first.size;
  outside = λ i out. next.outside i out ∙ first.outside i out;
}

-- what lies in none of more areas
pub behind_more : (m n : ℕ) (d c : List ℕ) → m ≤ n → SameBehind m d c → SameBehind n d c
behind_more m n d c le same = record {
  size = same.size;
  outside = λ i out. same.outside i (λ k lt. out k (omega (arith, lt, le)));
}

-- what lies outside of one of them
pub behind_one : (n k : ℕ) (d c : List ℕ) → k < n → IsSameOutsideArea (area_of k) d c → SameBehind n d c
behind_one n k d c inside same = record {
  size = same.size;
  outside = λ i out. same.outside i (out k inside);
}
