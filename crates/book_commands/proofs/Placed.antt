-- What stands under a name has a first place.
use Rattle.std.proofs.Common.{Bool, List, None, Option, Some, [], arith, false, get_or, refl, suc, true, zero, ℕ, ◌<◌, ◌∷◌, ◌≡◌}
use Rattle.std.specs.Prelude.{if◌then◌else◌}
use Rattle.std.specs.Str.{bytes_eq}
use Rattle.book_model.specs.Rows.{Row, Rows, under}
use Rattle.book.specs.Naming.{IsPlaceOf, is_named}

module _ {C : Type 0} (name : List ℕ) where
  -- behind a row that hasn't the name
  next : (o : Option (Row C)) (rows : Rows C) (at : ℕ) → is_named name o ≡ false → IsPlaceOf name rows at
      → IsPlaceOf name (o ∷ rows) (suc at)
  next o rows at isnt is = record { named = is.named; first = by }
    where
      by : (q : ℕ) → q < suc at → is_named name (get_or (o ∷ rows) q None) ≡ false
      by zero lt = isnt
      by (suc q) lt = is.first q (omega arith)

  pub placed : (rows : Rows C) (kept : C) → under name rows ≡ Some kept → (at : ℕ) × IsPlaceOf name rows at
  placed [] kept is = absurd (let e : None ≡ Some kept = is in cc)
  placed (None ∷ rows) kept is =
      let there = placed rows kept is in (suc there.0, next None rows there.0 refl there.1)
  placed (Some row ∷ rows) kept is = by (bytes_eq row.name name) refl is (λ rest. placed rows kept rest)
    where
      by : (b : Bool) → bytes_eq row.name name ≡ b → (if b then Some row.kept else under name rows) ≡ Some kept
          → (under name rows ≡ Some kept → (at : ℕ) × IsPlaceOf name rows at)
          → (at : ℕ) × IsPlaceOf name (Some row ∷ rows) at
      by true named is more = (0, record { named = named; first = λ q lt. absurd (omega arith) })
      by false isnt is more = let there = more is in (suc there.0, next (Some row) rows there.0 isnt there.1)
