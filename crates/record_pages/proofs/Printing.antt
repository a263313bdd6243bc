-- Numbers printed one after the other, and what a record's table gives back.
use Rattle.std.proofs.Common.{◌≡◌, ℕ, zero, suc, ◌+◌, ◌<◌, List, [], ◌∷◌, ◌++◌, take, sym, ap, ◌∙◌, arith, append_assoc, append-nil, length}
use Rattle.std.specs.Prelude.{slice_index}
use Rattle.std.specs.Int.{w16, to_be_bytes}
use Rattle.record_pages.specs.Tables.{printed}

printed_next : (i : ℕ) (numbers : List ℕ) → i < length numbers → printed (take (suc i) numbers) ≡ printed (take i numbers) ++ to_be_bytes w16 (slice_index numbers i)
printed_next i [] lt = absurd (omega arith)
printed_next zero (n ∷ numbers) lt = append-nil (to_be_bytes w16 n)
printed_next (suc i) (n ∷ numbers) lt =
    ap (λ (l : List ℕ). to_be_bytes w16 n ++ l) (printed_next i numbers (omega arith))
    ∙ sym (append_assoc (to_be_bytes w16 n) (printed (take i numbers)) (to_be_bytes w16 (slice_index numbers i)))

pub printed_more : (i : ℕ) (numbers : List ℕ) → i < length numbers → printed (take (i + 1) numbers) ≡ printed (take i numbers) ++ to_be_bytes w16 (slice_index numbers i)
printed_more i numbers lt = ap (λ k. printed (take k numbers)) (let e : i + 1 ≡ suc i = omega arith in e) ∙ printed_next i numbers lt
