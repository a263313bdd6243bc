-- What is left of a list where all that pass a test go, and whether any does.
use Rattle.std.proofs.Common.{◌≡◌, ◌<◌, ◌≤◌, Bool, true, false, List, [], ◌∷◌, length, refl, ap, arith}
use Rattle.std.specs.Prelude.{◌||◌, filter, map, not, if◌then◌else◌}
use Rattle.std.specs.List.{list_any}

module _ {T : Type 0} (goes : T → Bool) where
  abbrev others : List T → List T
  others list = filter (λ one. not (goes one)) list

  shorter : (list : List T) → length (others list) ≤ length list
  shorter [] = omega arith
  shorter (x ∷ list) = by_test (goes x) (shorter list)
    where
      by_test : (t : Bool) → length (others list) ≤ length list
          → length (if not t then x ∷ others list else others list) ≤ length (x ∷ list)
      by_test true le = omega arith
      by_test false le = omega arith

  -- where any goes, fewer are left
  pub fewer_left : (list : List T) → list_any goes list ≡ true → length (others list) < length list
  fewer_left [] e = absurd (let f : false ≡ true = e in cc)
  fewer_left (x ∷ list) e = by_test (goes x) (shorter list) (fewer_left list) e
    where
      by_test : (t : Bool) → length (others list) ≤ length list → (list_any goes list ≡ true → length (others list) < length list)
          → (t || list_any goes list) ≡ true
          → length (if not t then x ∷ others list else others list) < length (x ∷ list)
      by_test true le _ _ = omega arith
      by_test false le later any = let lt = later any in omega arith

  -- where none goes, all are left
  pub all_left : (list : List T) → list_any goes list ≡ false → others list ≡ list
  all_left [] e = refl
  all_left (x ∷ list) e = by_test (goes x) (all_left list) e
    where
      by_test : (t : Bool) → (list_any goes list ≡ false → others list ≡ list) → (t || list_any goes list) ≡ false
          → (if not t then x ∷ others list else others list) ≡ x ∷ list
      by_test true _ any = absurd (let f : true ≡ false = any in cc)
      by_test false later none = ap (λ (rest : List T). x ∷ rest) (later none)

  -- as many are left as stood: none goes
  pub none_goes : (list : List T) → length list ≤ length (others list) → list_any goes list ≡ false
  none_goes list le = by_test (list_any goes list) refl
    where
      by_test : (t : Bool) → list_any goes list ≡ t → t ≡ false
      by_test true any = absurd (let lt = fewer_left list any in omega arith)
      by_test false _ = refl

  -- fewer are left than stood: one goes
  pub one_goes : (list : List T) → length (others list) < length list → list_any goes list ≡ true
  one_goes list lt = by_test (list_any goes list) refl
    where
      by_test : (t : Bool) → list_any goes list ≡ t → t ≡ true
      by_test true _ = refl
      by_test false none = absurd (let same = ap (λ (rest : List T). length rest) (all_left list none) in omega arith)

-- what is left is shown as it was
pub filter-shown : {S T : Type 0} (f : S → T) (stays : T → Bool) (list : List S)
    → map f (filter (λ one. stays (f one)) list) ≡ filter stays (map f list)
filter-shown f stays [] = refl
filter-shown f stays (x ∷ list) = by_test (stays (f x)) (filter-shown f stays list)
  where
    by_test : (t : Bool) → map f (filter (λ one. stays (f one)) list) ≡ filter stays (map f list)
        → map f (if t then x ∷ filter (λ one. stays (f one)) list else filter (λ one. stays (f one)) list)
        ≡ (if t then f x ∷ filter stays (map f list) else filter stays (map f list))
    by_test true same = ap (λ (rest : List _). f x ∷ rest) same
    by_test false same = same

pub any-shown : {S T : Type 0} (f : S → T) (goes : T → Bool) (list : List S) → list_any goes (map f list) ≡ list_any (λ one. goes (f one)) list
any-shown f goes [] = refl
any-shown f goes (x ∷ list) = ap (λ (t : Bool). goes (f x) || t) (any-shown f goes list)
