-- Lists that are printed item by item.
use Rattle.std.proofs.Common.{◌≡◌, ℕ, ◌+◌, ◌*◌, ◌<◌, ◌≤◌, List, [], ◌∷◌, ◌++◌, length, take, drop, Some, refl, sym, ◌∙◌, ap, arith, append_assoc, append-nil, length-append}
use Rattle.std.specs.List.{slice_get}
use Rattle.std.specs.Prelude.{All}
use Rattle.std.proofs.lemmas.List.Elements.{All-head, All-tail}
use Rattle.std.proofs.lemmas.List.{take_more, take-append-drop, get_or-drop, length-drop}
use Rattle.std.proofs.lemmas.Option.{slice_get_within, get_or_from_slice_get, slice_get-get_or}
use Rattle.grammar.specs.Printer.{print_items}

-- an item after those that are dropped
pub slice_get-drop : {A : Type 0} (xs : List A) (n i : ℕ) (x : A) → slice_get xs (n + i) ≡ Some x → slice_get (drop n xs) i ≡ Some x
slice_get-drop xs n i x here =
    let inside : n + i < length xs = slice_get_within xs (n + i) x here in
    let below : i < length (drop n xs) = omega (arith, length-drop n xs) in
    slice_get-get_or (drop n xs) i x below ∙ ap (λ y. Some y) (get_or-drop n xs i x ∙ get_or_from_slice_get xs (n + i) x x here)

module _ {A : Type 0} (print : A → List ℕ) where
  pub print-none : print_items print [] ≡ []
  unfolding print_items
  print-none = refl

  pub print_items-push : (xs : List A) (a : A) → print_items print (xs ++ a ∷ []) ≡ print_items print xs ++ print a
  unfolding print_items
  print_items-push [] a = append-nil (print a)
  print_items-push (x ∷ xs) a =
      ap (λ rest. print x ++ rest) (print_items-push xs a) ∙ sym (append_assoc (print x) (print_items print xs) (print a))

  pub print_items-append : (xs ys : List A) → print_items print (xs ++ ys) ≡ print_items print xs ++ print_items print ys
  unfolding print_items
  print_items-append [] ys = refl
  print_items-append (x ∷ xs) ys =
      ap (λ rest. print x ++ rest) (print_items-append xs ys) ∙ sym (append_assoc (print x) (print_items print xs) (print_items print ys))

  -- the first items and one more
  pub print-next : (xs : List A) (i : ℕ) (x : A) → slice_get xs i ≡ Some x
      → print_items print (take (i + 1) xs) ≡ print_items print (take i xs) ++ print x
  print-next xs i x here =
      let inside = slice_get_within xs i x here in
      let item = get_or_from_slice_get xs i x x here in
      ap (λ l. print_items print l) (take_more xs i x inside ∙ ap (λ y. take i xs ++ y ∷ []) item) ∙ print_items-push (take i xs) x

  -- an item and those before it are no longer than all
  pub print-within : (xs : List A) (i : ℕ) (x : A) → slice_get xs i ≡ Some x
      → length (print_items print (take i xs)) + length (print x) ≤ length (print_items print xs)
  print-within xs i x here =
      let parted = ap (λ l. length (print_items print l)) (take-append-drop (i + 1) xs) in
      let two = ap (λ (l : List ℕ). length l) (print_items-append (take (i + 1) xs) (drop (i + 1) xs)) in
      let next = ap (λ (l : List ℕ). length l) (print-next xs i x here) in
      omega (arith, length-append (print_items print (take (i + 1) xs)) (print_items print (drop (i + 1) xs)), length-append (print_items print (take i xs)) (print x))

  -- items of at most this many bytes each
  pub size-items : (most : ℕ) (xs : List A) → All (λ x. length (print x) ≤ most) xs → length (print_items print xs) ≤ most * length xs
  unfolding print_items
  size-items most [] each = omega arith
  size-items most (x ∷ xs) each =
      let first = All-head (λ y. length (print y) ≤ most) x xs each in
      let behind = size-items most xs (All-tail (λ y. length (print y) ≤ most) x xs each) in
      let more : most * length (x ∷ xs) ≡ most + most * length xs = grind arith in
      omega (arith, more, first, behind, length-append (print x) (print_items print xs))
