-- x times an element as the code makes it: the last coefficient reduced first.
use Rattle.std.proofs.Common.{◌≡◌, ℕ, zero, suc, ◌+◌, ◌-◌, ◌<◌, ◌≤◌, List, length, set, ℤ, pos, ◌+ℤ◌, sym, ap, ◌∙◌, arith, All, get_or-set_same, get_or-set_other, length-set, subst, lit<}
use Rattle.ntru_ring.specs.Ring.{shift, coefficient}
use Rattle.ntru_ring.specs.Reduction.{centred, reduced, IsWithin}
use Rattle.ntru_ring.proofs.Rings.Algebra.{length-shift}
use Rattle.ntru_ring.proofs.Numbers.Centred.{centred-centred, centred_keeps, centred_within, centred-plus_right}
use Rattle.ntru_ring.proofs.Rings.Congruence.{length-reduced}
use Rattle.ntru_ring.proofs.Numbers.Ranges.{wider, within_sum}
use Rattle.ntru_ring.proofs.Rings.Places.{same_places, within_places, coefficient_within, coefficient-reduced, coefficient-shift_first, coefficient-shift_second, coefficient-shift_rest}

-- `new` is x times `old` up to a multiple of 2h + 1 in the last coefficient; both have n + 2 coefficients
pub record IsMovedUp (h n : ℕ) (old new : List ℤ) : Type 0 where
  pub old_length : length old ≡ suc (suc n)
  pub length : length new ≡ suc (suc n)
  pub first : coefficient new 0 ≡ centred h (coefficient old (suc n))
  pub second : coefficient new 1 ≡ coefficient old 0 +ℤ centred h (coefficient old (suc n))
  pub rest : (k : ℕ) → suc (suc k) < suc (suc n) → coefficient new (suc (suc k)) ≡ coefficient old (suc k)

apart : (i j : ℕ) → i < j → i ≡ j → ⊥
apart i j l e = absurd (omega arith)

zero_not_one : ¬ (zero ≡ suc zero)
zero_not_one = apart 0 1 (lit< tt)

pub one_not_zero : ¬ (suc zero ≡ zero)
one_not_zero = λ e. apart 0 1 (lit< tt) (sym e)

pub IsMovedUp-from_sets : (h n : ℕ) (old xs : List ℤ) (last v : ℤ) → length old ≡ suc (suc n) → length xs ≡ suc (suc n)
    → ((j : ℕ) → 1 ≤ j → j < suc (suc n) → coefficient xs j ≡ coefficient old (j - 1))
    → last ≡ centred h (coefficient old (suc n)) → v ≡ coefficient (set xs 0 last) 1 +ℤ last → IsMovedUp h n old (set (set xs 0 last) 1 v)
IsMovedUp-from_sets h n old xs last v e f done g w =
    let ys = set xs 0 last in
    let m : length ys ≡ suc (suc n) = length-set xs 0 last ∙ f in
    let second : coefficient ys 1 ≡ coefficient old 0 = get_or-set_other xs 0 1 last (pos 0) one_not_zero ∙ done 1 (omega arith) (omega arith) in
    record {
      old_length = e;
      length = length-set ys 1 v ∙ m;
      first = get_or-set_other ys 1 0 v (pos 0) zero_not_one ∙ get_or-set_same xs 0 last (pos 0) (omega arith) ∙ g;
      second = get_or-set_same ys 1 v (pos 0) (omega arith) ∙ w ∙ ap (λ t. t +ℤ last) second ∙ ap (λ t. coefficient old 0 +ℤ t) g;
      rest = λ k l.
          let a : ¬ (suc (suc k) ≡ 1) = omega arith in
          let b : ¬ (suc (suc k) ≡ 0) = omega arith in
          let s : suc (suc k) - 1 ≡ suc k = omega arith in
          get_or-set_other ys 1 (suc (suc k)) v (pos 0) a ∙ get_or-set_other xs 0 (suc (suc k)) last (pos 0) b ∙ done (suc (suc k)) (omega arith) l ∙ ap (coefficient old) s;
    }

moved_at : (h n : ℕ) (old new : List ℤ) → IsMovedUp h n old new → (k : ℕ) → k < suc (suc n) → centred h (coefficient new k) ≡ centred h (coefficient (shift old) k)
moved_at h n old new m zero l =
    ap (centred h) m.first ∙ centred-centred h (coefficient old (suc n)) ∙ sym (ap (centred h) (coefficient-shift_first old (suc n) m.old_length))
moved_at h n old new m (suc zero) l =
    ap (centred h) m.second ∙ centred-plus_right h (coefficient old 0) (coefficient old (suc n)) ∙ sym (ap (centred h) (coefficient-shift_second old n m.old_length))
moved_at h n old new m (suc (suc k)) l =
    ap (centred h) (m.rest k l) ∙ sym (ap (centred h) (coefficient-shift_rest old k (omega (arith, m.old_length))))

pub IsMovedUp-same : (h n : ℕ) (old new : List ℤ) → IsMovedUp h n old new → reduced h new ≡ reduced h (shift old)
IsMovedUp-same h n old new m =
    same_places (reduced h new) (reduced h (shift old)) (length-reduced h new ∙ m.length ∙ sym (length-reduced h (shift old) ∙ length-shift old ∙ m.old_length))
    (λ k l. coefficient-reduced h new k ∙ moved_at h n old new m k (omega (arith, length-reduced h new, m.length)) ∙ sym (coefficient-reduced h (shift old) k))

moved_within : (h n b : ℕ) (old new : List ℤ) → IsMovedUp h n old new → All (IsWithin b) old → (k : ℕ) → k < suc (suc n) → IsWithin (b + h) (coefficient new k)
moved_within h n b old new m w zero l =
    subst (IsWithin (b + h)) (sym m.first) (wider h (b + h) (omega arith) (centred h (coefficient old (suc n))) (centred_within h (coefficient old (suc n))))
moved_within h n b old new m w (suc zero) l =
    subst (IsWithin (b + h)) (sym m.second) (within_sum b h (coefficient old 0) (centred h (coefficient old (suc n))) (coefficient_within b old 0 w) (centred_within h (coefficient old (suc n))))
moved_within h n b old new m w (suc (suc k)) l =
    subst (IsWithin (b + h)) (sym (m.rest k l)) (wider b (b + h) (omega arith) (coefficient old (suc k)) (coefficient_within b old (suc k) w))

pub IsMovedUp-within : (h n b : ℕ) (old new : List ℤ) → IsMovedUp h n old new → All (IsWithin b) old → All (IsWithin (b + h)) new
IsMovedUp-within h n b old new m w = within_places (b + h) new (λ k l. moved_within h n b old new m w k (omega (arith, m.length)))

-- x times a reduced element, by its places
pub shift_places : (h n : ℕ) (old new : List ℤ) → length old ≡ suc (suc n) → All (IsWithin h) old → length new ≡ suc (suc n) → coefficient new 0 ≡ coefficient old (suc n)
    → coefficient new 1 ≡ centred h (coefficient old 0 +ℤ coefficient old (suc n)) → ((k : ℕ) → suc (suc k) < suc (suc n) → coefficient new (suc (suc k)) ≡ coefficient old (suc k)) → new ≡ reduced h (shift old)
shift_places h n old new e w f first second rest =
    same_places new (reduced h (shift old)) (f ∙ sym (length-reduced h (shift old) ∙ length-shift old ∙ e)) (λ k l. shift_place k (omega (arith, f)))
  where
    kept : (k : ℕ) → coefficient old k ≡ centred h (coefficient old k)
    kept k = sym (centred_keeps h (coefficient old k) (coefficient_within h old k w))

    shift_place : (k : ℕ) → k < suc (suc n) → coefficient new k ≡ coefficient (reduced h (shift old)) k
    shift_place zero l = first ∙ kept (suc n) ∙ sym (coefficient-reduced h (shift old) 0 ∙ ap (centred h) (coefficient-shift_first old (suc n) e))
    shift_place (suc zero) l = second ∙ sym (coefficient-reduced h (shift old) 1 ∙ ap (centred h) (coefficient-shift_second old n e))
    shift_place (suc (suc k)) l = rest k l ∙ kept (suc k) ∙ sym (coefficient-reduced h (shift old) (suc (suc k)) ∙ ap (centred h) (coefficient-shift_rest old k (omega arith)))

-- the same, as the code makes it
pub moved_reduced : (h n : ℕ) (old xs : List ℤ) (last second : ℤ) → length old ≡ suc (suc n) → All (IsWithin h) old → length xs ≡ suc (suc n)
    → ((j : ℕ) → 1 ≤ j → j < suc (suc n) → coefficient xs j ≡ coefficient old (j - 1))
    → last ≡ coefficient old (suc n) → second ≡ centred h (coefficient old 0 +ℤ coefficient old (suc n)) → set (set xs 0 last) 1 second ≡ reduced h (shift old)
moved_reduced h n old xs last second e w f done g s =
    let ys = set xs 0 last in
    let m : length ys ≡ suc (suc n) = length-set xs 0 last ∙ f in
    shift_places h n old (set ys 1 second) e w (length-set ys 1 second ∙ m) (get_or-set_other ys 1 0 second (pos 0) zero_not_one ∙ get_or-set_same xs 0 last (pos 0) (omega arith) ∙ g)
    (get_or-set_same ys 1 second (pos 0) (omega arith) ∙ s)
    (λ k l.
    let a : ¬ (suc (suc k) ≡ 1) = omega arith in
    let b : ¬ (suc (suc k) ≡ 0) = omega arith in
    let d : suc (suc k) - 1 ≡ suc k = omega arith in
    get_or-set_other ys 1 (suc (suc k)) second (pos 0) a ∙ get_or-set_other xs 0 (suc (suc k)) last (pos 0) b ∙ done (suc (suc k)) (omega arith) l ∙ ap (coefficient old) d)
