-- The range of a platter that has marks.
use Rattle.std.proofs.Common.{◌≡◌, ◌⊎◌, inl, inr, ⊎_elim, ℕ, ◌+◌, ◌-◌, ◌<◌, ◌≤◌, Bool, true, false, List, length, get_or, replicate, sym, ◌∙◌, ap, arith}
use Rattle.std.specs.Prelude.{slice_range}
use Rattle.std.proofs.lemmas.Bool.{false≢true, cases_Bool}
use Rattle.std.proofs.lemmas.List.{ext_get_or, length-replicate}
use Rattle.dr_disk.specs.Bytes.{overwritten}
use Rattle.dr_disk.specs.Memory.{IsImage, marked}
use Rattle.dr_disk.proofs.Overwrites.{length-overwritten, overwritten_in, overwritten_outside}
use Rattle.dr_disk.proofs.Ranges.{get_or-range, length-range, where_is}
use Rattle.dr_disk.proofs.Tears.{no_mark, outside_marks}

-- every mark lies in the range
abbrev pub AreAround : List Bool → ℕ → ℕ → Type 0
AreAround marks low high = (i : ℕ) → get_or marks i false ≡ true → (low ≤ i) × (i < high)

pub around_none : (n low high : ℕ) → AreAround (replicate n false) low high
around_none n low high i is = absurd (false≢true (sym (no_mark n i) ∙ is))

-- a range more, within new bounds that have both
pub around_more : (durable : List ℕ) (marks marks' : List Bool) (at n low high low' high' : ℕ) → at + n ≤ length durable → length marks ≡ length durable → marks' ≡ marked marks at n
    → ((i : ℕ) → low ≤ i → i < high → (low' ≤ i) × (i < high')) → ((i : ℕ) → at ≤ i → i < at + n → (low' ≤ i) × (i < high')) → AreAround marks low high → AreAround marks' low' high'
around_more durable marks marks' at n low high low' high' fits each is first second was i here =
    ⊎_elim
    (λ out.
    let there = was i (sym (outside_marks durable marks at n fits each i out) ∙ sym (ap (λ (m : List Bool). get_or m i false) is) ∙ here) in
    first i there.0 there.1)
    (λ within. second i within.0 within.1) (where_is i at n)

-- outside there is no mark
unmarked : (marks : List Bool) (low high : ℕ) → AreAround marks low high → (i : ℕ) → (i < low) ⊎ (high ≤ i) → get_or marks i false ≡ false
unmarked marks low high was i out = ⊎_elim
    (λ is. let there = was i is in absurd (⊎_elim (λ lt. let f : ⊥ = absurd (omega arith) in f) (λ ge. let f : ⊥ = absurd (omega arith) in f) out))
    (λ no. no) (cases_Bool (get_or marks i false))

module _ (durable bytes : List ℕ) (marks : List Bool) (low high : ℕ) (order : low ≤ high) (end : high ≤ length durable) (was : AreAround marks low high) (agrees : IsImage durable marks bytes) where
  part_long : length (slice_range bytes low high) ≡ high - low
  part_long = omega (arith, length-range bytes low high, agrees.size)

  -- the range copied into bytes that are the durable ones where no mark is
  pub copied : (old : List ℕ) → IsImage durable marks old → overwritten old low (slice_range bytes low high) ≡ bytes
  copied old asks =
      let part = slice_range bytes low high in
      let fits : low + length part ≤ length old = omega (arith, part_long, asks.size) in
      ext_get_or 0 (overwritten old low part) bytes (length-overwritten old low part fits ∙ asks.size ∙ sym agrees.size)
      (λ i lt. ⊎_elim
      (λ out.
      let beside : (i < low) ⊎ (high ≤ i) = ⊎_elim (λ l. inl l) (λ g. inr (omega (arith, part_long))) out in
      let none = unmarked marks low high was i beside in
      overwritten_outside old low part fits i 0 out ∙ asks.same i none ∙ sym (agrees.same i none))
      (λ within.
      overwritten_in old low part fits i 0 within.0 within.1 ∙ get_or-range bytes low high (i - low) (omega (arith, part_long))
      ∙ ap (λ k. get_or bytes k 0) (let e : low + (i - low) ≡ i = omega arith in e)) (where_is i low (length part)))

  pub cleared : length marks ≡ length durable → overwritten marks low (replicate (high - low) false) ≡ replicate (length marks) false
  cleared each =
      let none = replicate (high - low) false in
      let long = length-replicate (high - low) false in
      let fits : low + length none ≤ length marks = omega (arith, long) in
      ext_get_or false (overwritten marks low none) (replicate (length marks) false) (length-overwritten marks low none fits ∙ sym (length-replicate (length marks) false))
      (λ i lt. ⊎_elim
      (λ out.
      let beside : (i < low) ⊎ (high ≤ i) = ⊎_elim (λ l. inl l) (λ g. inr (omega (arith, long))) out in
      overwritten_outside marks low none fits i false out ∙ unmarked marks low high was i beside ∙ sym (no_mark (length marks) i))
      (λ within.
      overwritten_in marks low none fits i false within.0 within.1 ∙ no_mark (high - low) (i - low) ∙ sym (no_mark (length marks) i)) (where_is i low (length none)))

-- where both are what is read
pub settled_image : (durable bytes c : List ℕ) (marks : List Bool) → durable ≡ bytes → c ≡ bytes → IsImage durable marks c
settled_image durable bytes c marks d e = record {
  size = ap (λ (l : List ℕ). length l) (e ∙ sym d);
  same = λ i none. ap (λ (l : List ℕ). get_or l i 0) (e ∙ sym d);
}
