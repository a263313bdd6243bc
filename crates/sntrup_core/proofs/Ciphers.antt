-- What the code of decryption computes.
use Rattle.std.proofs.Common.{◌≡◌, inl, inr, ℕ, ◌+◌, ◌-◌, ◌<◌, ◌≤◌, List, ◌++◌, length, get_or, replicate, eqb, ℤ, pos, ap, sym, ◌∙◌, arith}
use Rattle.std.proofs.lemmas.Bool.{cases_lt, cond-true, cond-false, eq-eqb, ne_eqb}
use Rattle.std.proofs.lemmas.List.{ext_get_or, length-append, length-replicate, get_or-replicate, get_or_append_left, get_or-append_right}
use Rattle.ntru_ring.specs.Ring.{scale, times}
use Rattle.ntru_ring.specs.Reduction.{reduced}
use Rattle.ntru_ring.specs.Small.{weight}
use Rattle.ntru_ring.proofs.Rings.Unit.{times_comm}
use Rattle.ntru_ring.proofs.Rings.Congruence.{reduced-scale}
use Rattle.sntrup_core.specs.Core.{ones, recovered, decrypted}

-- a list of m entries a, and then n entries b
two_parts : {X : Type 0} (m n : ℕ) (a b d : X) (xs : List X) → length xs ≡ m + n
    → ((j : ℕ) → j < m → get_or xs j d ≡ a) → ((j : ℕ) → m ≤ j → j < m + n → get_or xs j d ≡ b)
    → xs ≡ replicate m a ++ replicate n b
two_parts m n a b d xs long front back =
    let size = length-append (replicate m a) (replicate n b) in
    let first = length-replicate m a in
    let second = length-replicate n b in
    ext_get_or d xs (replicate m a ++ replicate n b) (omega arith) (λ i h.
    elim (cases_lt i m) [
      | inl l ↦ front i l ∙ sym (get_or_append_left (replicate m a) (replicate n b) d i (omega arith)
          ∙ get_or-replicate m i a d l)
      | inr g ↦ back i g (omega arith) ∙ sym (get_or-append_right (replicate m a) (replicate n b) m i d first g
          ∙ get_or-replicate n (i - m) b d (omega arith))
    ])

pub ones-are : (xs : List ℤ) → length xs ≡ 761 → ((j : ℕ) → j < 286 → get_or xs j (pos 0) ≡ pos 1)
    → ((j : ℕ) → 286 ≤ j → j < 761 → get_or xs j (pos 0) ≡ pos 0) → xs ≡ ones
unfolding ones
ones-are xs long front back = two_parts 286 475 (pos 1) (pos 0) (pos 0) xs long front back

pub recovered-is : (f v c a b e r : List ℤ) → length f ≡ length c → a ≡ reduced 2295 (times c f)
    → b ≡ reduced 2295 (scale (pos 3) a)
    → e ≡ reduced 1 b → r ≡ reduced 1 (times e v) → r ≡ recovered f v c
unfolding recovered
recovered-is f v c a b e r l product threefold small last =
    last ∙ ap (λ t. reduced 1 (times t v)) (small
    ∙ ap (reduced 1) (threefold ∙ ap (λ t. reduced 2295 (scale (pos 3) t)) product
    ∙ reduced-scale 2295 (pos 3) (times c f) ∙ ap (λ t. reduced 2295 (scale (pos 3) t)) (times_comm c f (sym l))))

pub decrypted-kept : (f v c r : List ℤ) → r ≡ recovered f v c → weight r ≡ 286 → r ≡ decrypted f v c
unfolding decrypted
decrypted-kept f v c r e w = e ∙ sym (cond-true (eqb (weight (recovered f v c)) 286) _ _
    (eq-eqb _ 286 (sym (ap weight e) ∙ w)))

pub decrypted-ones : (f v c r : List ℤ) → r ≡ recovered f v c → ¬ (weight r ≡ 286) → ones ≡ decrypted f v c
unfolding decrypted
decrypted-ones f v c r e w = sym (cond-false (eqb (weight (recovered f v c)) 286) _ _
    (ne_eqb _ 286 (λ is. w (ap weight e ∙ is))))
