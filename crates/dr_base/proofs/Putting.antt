-- Bytes put after bytes that were put.
use Rattle.std.proofs.Common.{◌≡◌, ℕ, List, ◌++◌, length, take, drop, sym, ap, ◌∙◌, append_assoc, arith}
use Rattle.std.proofs.lemmas.List.{drop-drop, length-append}
use Rattle.dr_base.specs.Buffer.{Puts}

-- bytes after bytes
pub then_puts : {a b c x y : List ℕ} {at m n : ℕ} → Puts a b at x m → Puts b c m y n → Puts a c at (x ++ y) n
then_puts {a} {b} {c} {x} {y} {at} {m} {n} first second =
    let behind : (l : List ℕ) → drop n l ≡ drop (length y) (drop m l) =
    λ l. ap (λ (k : ℕ). drop k l) second.next_is ∙ sym (drop-drop (length y) m l) in
    record {
      next_is = omega (arith, length-append x y, first.next_is, second.next_is);
      front = second.front ∙ ap (λ (l : List ℕ). l ++ y) first.front ∙ append_assoc (take at a) x y;
      rest = second.rest ∙ behind b ∙ ap (drop (length y)) first.rest ∙ sym (behind a);
    }
