-- Pages of a text, by their places in it.
use Rattle.std.proofs.Common.{◌≡◌, ℕ, zero, suc, ◌<◌, List, [], ◌∷◌, get_or, length, refl, ap, arith}
use Rattle.pages.specs.Writing.{piece_at}
use Rattle.book_store.specs.Desk.{pieces}

pub pieces_long : (pages places : List ℕ) → length (pieces pages places) ≡ length places
pieces_long pages [] = refl
pieces_long pages (at ∷ places) = ap suc (pieces_long pages places)

pub piece : (pages places : List ℕ) (j : ℕ) → j < length places
    → get_or (pieces pages places) j [] ≡ piece_at pages places j
piece pages [] j lt = absurd (omega arith)
piece pages (at ∷ places) zero lt = refl
piece pages (at ∷ places) (suc j) lt = piece pages places j (omega arith)
