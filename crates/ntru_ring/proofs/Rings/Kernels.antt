-- The loops over the coefficients.
use Rattle.std.proofs.Common.{◌≡◌, inl, inr, ℕ, ◌+◌, ◌<◌, ◌≤◌, List, length, set, ℤ, pos, ◌+ℤ◌, ◌*ℤ◌, refl, sym, ap, ◌∙◌, arith, get_or-set_same, get_or-set_other, length-set, subst}
use Rattle.std.proofs.lemmas.Int.{ints}
use Rattle.std.proofs.lemmas.Bool.{cases_lt}
use Rattle.ntru_ring.specs.Ring.{plus, scale, coefficient}
use Rattle.ntru_ring.proofs.Rings.Algebra.{length-plus, length-scale}
use Rattle.ntru_ring.specs.Reduction.{centred, reduced}
use Rattle.ntru_ring.proofs.Rings.Congruence.{length-reduced}
use Rattle.ntru_ring.proofs.Rings.Places.{same_places, coefficient-plus, coefficient-scale, coefficient-reduced}

-- `new` is `old` with `by` times `row` added at the places from `from` to below `k`
pub record IsAdded (old new row : List ℤ) (by : ℤ) (from k : ℕ) : Type 0 where
  pub length : length new ≡ length old
  pub done : (j : ℕ) → from ≤ j → j < k → coefficient new j ≡ coefficient old j +ℤ by *ℤ coefficient row j
  pub before : (j : ℕ) → j < from → coefficient new j ≡ coefficient old j
  pub after : (j : ℕ) → k ≤ j → coefficient new j ≡ coefficient old j

pub IsAdded-none : (old row : List ℤ) (by : ℤ) (from : ℕ) → IsAdded old old row by from from
IsAdded-none old row by from = record {
  length = refl;
  done = λ j l m. absurd (omega arith);
  before = λ j l. refl;
  after = λ j l. refl;
}

pub IsAdded-more : (old new row : List ℤ) (by : ℤ) (from k : ℕ) (v : ℤ) → from ≤ k → k < length old → v ≡ coefficient new k +ℤ by *ℤ coefficient row k → IsAdded old new row by from k → IsAdded old (set new k v) row by from (k + 1)
IsAdded-more old new row by from k v l m e a =
    let other = λ (j : ℕ) (n : ¬ (j ≡ k)). get_or-set_other new k j v (pos 0) n in
    record {
      length = length-set new k v ∙ a.length;
      done = λ j p q. elim (cases_lt j k) [
        | inl r ↦ other j (omega arith) ∙ a.done j p r
        | inr r ↦ let s : j ≡ k = omega arith in
            ap (λ t. coefficient (set new k v) t) s ∙ get_or-set_same new k v (pos 0) (omega (arith, a.length)) ∙ e ∙ ap (λ t. t +ℤ by *ℤ coefficient row k) (a.after k (omega arith)) ∙ ap (λ t. coefficient old t +ℤ by *ℤ coefficient row t) (sym s)
      ];
      before = λ j p. other j (omega arith) ∙ a.before j p;
      after = λ j p. other j (omega arith) ∙ a.after j (omega arith);
    }

none_added : (x by z : ℤ) → z ≡ pos 0 → x ≡ x +ℤ by *ℤ z
none_added x by z e = sym (ap (λ t. x +ℤ by *ℤ t) e ∙ (let m : x +ℤ by *ℤ pos 0 ≡ x = omega (arith, ints) in m))

-- all is added, where the rest of the row is zero
pub IsAdded-all : (old new row : List ℤ) (by : ℤ) (from to : ℕ) → length old ≡ length row → ((j : ℕ) → j < from → coefficient row j ≡ pos 0) → ((j : ℕ) → to ≤ j → coefficient row j ≡ pos 0) → IsAdded old new row by from to → new ≡ plus old (scale by row)
IsAdded-all old new row by from to e before after a =
    let s = length-scale by row in
    let none = λ (j : ℕ) (z : coefficient row j ≡ pos 0). none_added (coefficient old j) by (coefficient row j) z in
    let sum = λ (j : ℕ). coefficient-plus old (scale by row) j (e ∙ sym s) ∙ ap (λ t. coefficient old j +ℤ t) (coefficient-scale by row j) in
    same_places new (plus old (scale by row)) (a.length ∙ e ∙ sym (length-plus old (scale by row) (e ∙ sym s) ∙ s))
    (λ j l. elim (cases_lt j from) [
      | inl p ↦ a.before j p ∙ none j (before j p) ∙ sym (sum j)
      | inr p ↦ elim (cases_lt j to) [
        | inl q ↦ a.done j p q ∙ sym (sum j)
        | inr q ↦ a.after j q ∙ none j (after j q) ∙ sym (sum j)
      ]
    ])

pub IsAdded-at : (old new row : List ℤ) (by by' : ℤ) (from k k' : ℕ) → by ≡ by' → k ≡ k' → IsAdded old new row by from k → IsAdded old new row by' from k'
IsAdded-at old new row by by' from k k' e f a = subst (λ (t : ℤ). IsAdded old new row t from k') e (subst (λ (t : ℕ). IsAdded old new row by from t) f a)

-- the first k places are those of `whole`, which is as long
pub record IsFilling (whole xs : List ℤ) (k : ℕ) : Type 0 where
  pub length : length xs ≡ length whole
  pub done : (j : ℕ) → j < k → coefficient xs j ≡ coefficient whole j

pub IsFilling-none : (whole xs : List ℤ) → length xs ≡ length whole → IsFilling whole xs 0
IsFilling-none whole xs e = record { length = e; done = λ j l. absurd (omega arith) }

pub IsFilling-more : (whole xs : List ℤ) (k : ℕ) (v : ℤ) → k < length whole → v ≡ coefficient whole k → IsFilling whole xs k → IsFilling whole (set xs k v) (k + 1)
IsFilling-more whole xs k v l e a = record {
  length = length-set xs k v ∙ a.length;
  done = λ j p. elim (cases_lt j k) [
    | inl q ↦ let ne : ¬ (j ≡ k) = omega arith in get_or-set_other xs k j v (pos 0) ne ∙ a.done j q
    | inr q ↦ let s : j ≡ k = omega arith in
        ap (λ t. coefficient (set xs k v) t) s ∙ get_or-set_same xs k v (pos 0) (omega (arith, a.length)) ∙ e ∙ ap (coefficient whole) (sym s)
  ];
}

pub IsFilling-all : (whole xs : List ℤ) (k : ℕ) → length whole ≤ k → IsFilling whole xs k → xs ≡ whole
IsFilling-all whole xs k l a = same_places xs whole a.length (λ j p. a.done j (omega (arith, a.length)))

-- the first k places are those of `whole`, the others those of `old`
pub record IsReplaced (whole old xs : List ℤ) (k : ℕ) : Type 0 where
  pub filling : IsFilling whole xs k
  pub rest : (j : ℕ) → k ≤ j → coefficient xs j ≡ coefficient old j

pub IsReplaced-none : (whole old : List ℤ) → length old ≡ length whole → IsReplaced whole old old 0
IsReplaced-none whole old e = record { filling = IsFilling-none whole old e; rest = λ j l. refl }

pub IsReplaced-more : (whole old xs : List ℤ) (k : ℕ) (v : ℤ) → k < length whole → v ≡ coefficient whole k → IsReplaced whole old xs k → IsReplaced whole old (set xs k v) (k + 1)
IsReplaced-more whole old xs k v l e a = record {
  filling = IsFilling-more whole xs k v l e a.filling;
  rest = λ j p. let ne : ¬ (j ≡ k) = omega arith in get_or-set_other xs k j v (pos 0) ne ∙ a.rest j (omega arith);
}

pub IsReplaced-all : (whole old xs : List ℤ) (k : ℕ) → length whole ≤ k → IsReplaced whole old xs k → xs ≡ whole
IsReplaced-all whole old xs k l a = IsFilling-all whole xs k l a.filling

-- a row with c times another, reduced
pub coefficient_added : (h : ℕ) (a b : List ℤ) (c : ℤ) (k : ℕ) → length a ≡ length b → coefficient (reduced h (plus a (scale c b))) k ≡ centred h (coefficient a k +ℤ c *ℤ coefficient b k)
coefficient_added h a b c k e =
    coefficient-reduced h (plus a (scale c b)) k
    ∙ ap (centred h) (coefficient-plus a (scale c b) k (e ∙ sym (length-scale c b)) ∙ ap (λ t. coefficient a k +ℤ t) (coefficient-scale c b k))

pub length_added : (h : ℕ) (a b : List ℤ) (c : ℤ) → length a ≡ length b → length (reduced h (plus a (scale c b))) ≡ length b
length_added h a b c e =
    length-reduced h (plus a (scale c b)) ∙ length-plus a (scale c b) (e ∙ sym (length-scale c b)) ∙ length-scale c b
