-- Reads of bytes that were written over.
use Rattle.std.proofs.Common.{◌≡◌, ◌⊎◌, ⊎_elim, ℕ, ◌+◌, ◌-◌, ◌<◌, ◌≤◌, List, ◌++◌, length, take, drop, get_or, ◌∙◌, ap, arith, length-append, length-drop}
use Rattle.std.proofs.lemmas.List.{get_or_append_left, get_or-append_right, get_or-take, get_or-drop, length-take-le}
use Rattle.dr_disk.specs.Bytes.{overwritten}

module _ {X : Type 0} (s : List X) (at : ℕ) (b : List X) (fits : at + length b ≤ length s) where
  front : length (take at s ++ b) ≡ at + length b
  front = length-append (take at s) b ∙ ap (λ n. n + length b) (length-take-le at s (omega arith))

  pub length-overwritten : length (overwritten s at b) ≡ length s
  length-overwritten = omega (arith, length-append (take at s ++ b) (drop (at + length b) s), front, length-drop (at + length b) s)

  pub overwritten_below : (i : ℕ) (d : X) → i < at → get_or (overwritten s at b) i d ≡ get_or s i d
  overwritten_below i d lt =
      get_or_append_left (take at s ++ b) (drop (at + length b) s) d i (omega (arith, front))
      ∙ get_or_append_left (take at s) b d i (omega (arith, length-take-le at s (omega arith)))
      ∙ get_or-take at s i d lt

  pub overwritten_in : (i : ℕ) (d : X) → at ≤ i → i < at + length b → get_or (overwritten s at b) i d ≡ get_or b (i - at) d
  overwritten_in i d le lt =
      get_or_append_left (take at s ++ b) (drop (at + length b) s) d i (omega (arith, front))
      ∙ get_or-append_right (take at s) b at i d (length-take-le at s (omega arith)) le

  pub overwritten_above : (i : ℕ) (d : X) → at + length b ≤ i → get_or (overwritten s at b) i d ≡ get_or s i d
  overwritten_above i d le =
      get_or-append_right (take at s ++ b) (drop (at + length b) s) (at + length b) i d front le
      ∙ get_or-drop (at + length b) s (i - (at + length b)) d
      ∙ ap (λ n. get_or s n d) (let e : at + length b + (i - (at + length b)) ≡ i = omega arith in e)

  pub overwritten_outside : (i : ℕ) (d : X) → (i < at) ⊎ (at + length b ≤ i) → get_or (overwritten s at b) i d ≡ get_or s i d
  overwritten_outside i d out = ⊎_elim (overwritten_below i d) (overwritten_above i d) out
