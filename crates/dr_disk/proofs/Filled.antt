-- What a crash of each kind leaves once a write was asked for.
use Rattle.std.proofs.Common.{◌≡◌, inl, inr, ⊎_elim, ℕ, zero, suc, ◌+◌, ◌-◌, ◌<◌, ◌≤◌, Bool, true, false, List, [], ◌∷◌, length, get_or, replicate, Some, None, refl, sym, ◌∙◌, ap, arith, if◌then◌else◌}
use Rattle.std.proofs.lemmas.Bool.{cases_lt}
use Rattle.std.proofs.lemmas.List.{ext_get_or, length-replicate, get_or-replicate, get_or-set_other, get_or-set_same}
use Rattle.std.proofs.Math.ListN.{set}
use Rattle.dr_disk.specs.declared.call.Mode.{Mode}
use Rattle.dr_disk.specs.declared.call.Mode.TheVariants.{Old, New, Fill}
use Rattle.dr_disk.specs.Bytes.{overwritten}
use Rattle.dr_disk.specs.Calls.{written_by}
use Rattle.dr_disk.specs.Memory.{marked, filled, left_by}
use Rattle.dr_disk.proofs.Overwrites.{length-overwritten, overwritten_outside, overwritten_in}
use Rattle.dr_disk.proofs.Ranges.{where_is}

pub length-filled : (byte : ℕ) (durable : List ℕ) (marks : List Bool) → length (filled byte durable marks) ≡ length durable
length-filled byte [] marks = refl
length-filled byte (d ∷ durable) [] = refl
length-filled byte (d ∷ durable) (true ∷ marks) = ap suc (length-filled byte durable marks)
length-filled byte (d ∷ durable) (false ∷ marks) = ap suc (length-filled byte durable marks)

pub filled_at : (byte : ℕ) (durable : List ℕ) (marks : List Bool) (i : ℕ) → i < length durable → get_or (filled byte durable marks) i 0 ≡ (if get_or marks i false then byte else get_or durable i 0)
filled_at byte [] marks i lt = absurd (omega arith)
filled_at byte (d ∷ durable) [] i lt = refl
filled_at byte (d ∷ durable) (true ∷ marks) zero lt = refl
filled_at byte (d ∷ durable) (false ∷ marks) zero lt = refl
filled_at byte (d ∷ durable) (true ∷ marks) (suc i) lt = filled_at byte durable marks i (omega arith)
filled_at byte (d ∷ durable) (false ∷ marks) (suc i) lt = filled_at byte durable marks i (omega arith)

module _ (byte : ℕ) (durable : List ℕ) (marks : List Bool) (at n : ℕ) (fits : at + n ≤ length durable) (each : length marks ≡ length durable) where
  room_marks : at + length (replicate n true) ≤ length marks
  room_marks = omega (arith, length-replicate n true)

  room_filled : at + length (replicate n byte) ≤ length (filled byte durable marks)
  room_filled = omega (arith, length-replicate n byte, length-filled byte durable marks)

  sizes : length (filled byte durable (marked marks at n)) ≡ length (overwritten (filled byte durable marks) at (replicate n byte))
  sizes = length-filled byte durable (marked marks at n) ∙ sym (length-filled byte durable marks) ∙ sym (length-overwritten (filled byte durable marks) at (replicate n byte) room_filled)

  pub filled_marked : filled byte durable (marked marks at n) ≡ overwritten (filled byte durable marks) at (replicate n byte)
  filled_marked = ext_get_or 0 (filled byte durable (marked marks at n)) (overwritten (filled byte durable marks) at (replicate n byte)) sizes (λ i lt.
      let low : i < length durable = omega (arith, length-filled byte durable (marked marks at n)) in
      filled_at byte durable (marked marks at n) i low
      ∙ ⊎_elim
      (λ out.
      let mark = overwritten_outside marks at (replicate n true) room_marks i false (⊎_elim (λ l. inl l) (λ g. inr (omega (arith, length-replicate n true))) out) in
      ap (λ m. if m then byte else get_or durable i 0) mark
      ∙ sym (filled_at byte durable marks i low)
      ∙ sym (overwritten_outside (filled byte durable marks) at (replicate n byte) room_filled i 0 (⊎_elim (λ l. inl l) (λ g. inr (omega (arith, length-replicate n byte))) out)))
      (λ within.
      let mark = overwritten_in marks at (replicate n true) room_marks i false within.0 (omega (arith, length-replicate n true)) ∙ get_or-replicate n (i - at) true false (omega (arith, within.1, within.0)) in
      ap (λ m. if m then byte else get_or durable i 0) mark
      ∙ sym (overwritten_in (filled byte durable marks) at (replicate n byte) room_filled i 0 within.0 (omega (arith, length-replicate n byte)) ∙ get_or-replicate n (i - at) byte 0 (omega (arith, within.1, within.0))))
      (where_is i at n))

pub left_written : (durable durable' asked asked' : List ℕ) (marks marks' : List Bool) (at : ℕ) (bytes : List ℕ) → at + length bytes ≤ length durable → length marks ≡ length durable
    → durable' ≡ durable → asked' ≡ overwritten asked at bytes → marks' ≡ marked marks at (length bytes) → (mode : Mode) (c : List ℕ) → Some (left_by durable' asked' marks' mode) ≡ Some c
    → (d : List ℕ) × (Some (left_by durable asked marks mode) ≡ Some d) × (c ≡ written_by mode at bytes d)
left_written durable durable' asked asked' marks marks' at bytes fits each same now is Old c told = (durable, refl, let e : c ≡ durable' = cc in e ∙ same)
left_written durable durable' asked asked' marks marks' at bytes fits each same now is New c told = (asked, refl, let e : c ≡ asked' = cc in e ∙ now)
left_written durable durable' asked asked' marks marks' at bytes fits each same now is (Fill byte) c told =
    (filled byte durable marks, refl, let e : c ≡ filled byte durable' marks' = cc in e ∙ ap (λ (l : List ℕ). filled byte l marks') same ∙ ap (filled byte durable) is ∙ filled_marked byte durable marks at (length bytes) fits each)

-- one place more is filled
pub filled_more : (byte : ℕ) (durable bytes : List ℕ) (marks : List Bool) (at value : ℕ) → at < length durable → length bytes ≡ length durable
    → ((k : ℕ) → k < at → get_or bytes k 0 ≡ get_or (filled byte durable marks) k 0) → ((k : ℕ) → at ≤ k → get_or bytes k 0 ≡ get_or durable k 0)
    → value ≡ (if get_or marks at false then byte else get_or bytes at 0)
    → (k : ℕ) → k < at + 1 → get_or (set bytes at value) k 0 ≡ get_or (filled byte durable marks) k 0
filled_more byte durable bytes marks at value lt size done rest is k below = ⊎_elim
    (λ before. get_or-set_other bytes at k value 0 (λ e. absurd (omega arith)) ∙ done k before)
    (λ after.
    let here : k ≡ at = omega arith in
    ap (λ i. get_or (set bytes at value) i 0) here
    ∙ get_or-set_same bytes at value 0 (omega arith)
    ∙ is ∙ ap (λ n. if get_or marks at false then byte else n) (rest at (omega arith))
    ∙ sym (filled_at byte durable marks at lt) ∙ ap (λ i. get_or (filled byte durable marks) i 0) (sym here))
    (cases_lt k at)

-- the same of a disk that tells it until a write finds no room
pub left_recorded : (full : Bool) (durable durable' asked asked' : List ℕ) (marks marks' : List Bool) (at : ℕ) (bytes : List ℕ) → at + length bytes ≤ length durable → length marks ≡ length durable
    → durable' ≡ durable → asked' ≡ overwritten asked at bytes → marks' ≡ marked marks at (length bytes)
    → (mode : Mode) (c : List ℕ) → (if full then None else Some (left_by durable' asked' marks' mode)) ≡ Some c
    → (d : List ℕ) × ((if full then None else Some (left_by durable asked marks mode)) ≡ Some d) × (c ≡ written_by mode at bytes d)
left_recorded true durable durable' asked asked' marks marks' at bytes fits each same now is mode c told = absurd (let e : None ≡ Some c = told in cc)
left_recorded false durable durable' asked asked' marks marks' at bytes fits each same now is mode c told = left_written durable durable' asked asked' marks marks' at bytes fits each same now is mode c told
