-- Sums that are reduced late stay within bounds.
use Rattle.std.proofs.Common.{◌≡◌, ℕ, ◌+◌, ◌*◌, ◌≤◌, List, length, ℤ, sym, ap, ◌∙◌, arith, All}
use Rattle.ntru_ring.specs.Ring.{plus, scale}
use Rattle.ntru_ring.specs.Reduction.{reduced, IsWithin}
use Rattle.ntru_ring.proofs.Rings.Algebra.{length-plus, length-scale}
use Rattle.ntru_ring.proofs.Rings.Congruence.{length-reduced}
use Rattle.ntru_ring.proofs.Rings.Bound.{All-wider, plus_within, scale_within_both}

-- a sum of count terms is within h + count * room
pub added_within : (h room count : ℕ) (old row : List ℤ) (by : ℤ) → h * h ≤ room → IsWithin h by → All (IsWithin (h + count * room)) old → All (IsWithin h) row → All (IsWithin (h + (count + 1) * room)) (plus old (scale by row))
added_within h room count old row by r v o w =
    All-wider (h + count * room + h * h) (h + (count + 1) * room) (omega arith) (plus old (scale by row))
    (plus_within (h + count * room) (h * h) old (scale by row) o (scale_within_both h h by row v w))

pub length_same : (h n : ℕ) (a b : List ℤ) → reduced h a ≡ reduced h b → length b ≡ n → length a ≡ n
length_same h n a b e f = sym (length-reduced h a) ∙ ap length e ∙ length-reduced h b ∙ f

pub added_length : (n : ℕ) (old row : List ℤ) (by : ℤ) → length old ≡ n → length row ≡ n → length (plus old (scale by row)) ≡ n
added_length n old row by e f =
    let s = length-scale by row ∙ f in length-plus old (scale by row) (e ∙ sym s) ∙ s
