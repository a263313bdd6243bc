-- Packets found in a list, one after another.
use Rattle.std.proofs.Common.{◌≡◌, ℕ, zero, suc, ◌+◌, ◌-◌, ◌<◌, ◌≤◌, Bool, true, false, cond, List, [], ◌∷◌, ◌++◌, length, take, drop, get_or, Option, Some, None, refl, sym, ◌∙◌, ap, arith, add-one, append_assoc}
use Rattle.std.specs.Prelude.{find, filter, slice_get, option_map, nat_le, if◌then◌else◌}
use Rattle.std.proofs.lemmas.Bool.Decides.{nat_tests}
use Rattle.std.proofs.lemmas.List.{take-append-drop, take_more, take_all}
use Rattle.std.proofs.lemmas.List.Elements.{filter-append}
use Rattle.std.proofs.lemmas.Option.{slice_get_past}
use Rattle.dr_base.specs.declared.position.Side.{Side}
use Rattle.boxes.specs.Posts.{Post}
use Rattle.dr_model.specs.Machines.Network.{held_nth, is_from_peer}

module _ {X : Type 0} (p : X → Bool) where
  pass : (b : Bool) (x : Option X) (y z : X) → cond b (Some y) x ≡ None → b ≡ false
  pass true x y z h = cc
  pass false x y z h = refl

  rest : (b : Bool) (x : Option X) (y : X) → cond b (Some y) x ≡ None → x ≡ None
  rest true x y h = cc
  rest false x y h = h

  skip : (b : Bool) (x : Option X) (y : X) → b ≡ false → cond b (Some y) x ≡ x
  skip true x y h = cc
  skip false x y h = refl

  hit : (b : Bool) (x : Option X) (y : X) → b ≡ true → cond b (Some y) x ≡ Some y
  hit true x y h = refl
  hit false x y h = cc

  -- the first that passes
  pub found_here : (xs : List X) (i : ℕ) (d : X) → i < length xs → find p (take i xs) ≡ None → p (get_or xs i d) ≡ true
      → find p xs ≡ Some (get_or xs i d)
  found_here [] i d h none here = absurd (omega arith)
  found_here (x ∷ xs) zero d h none here = hit (p x) (find p xs) x here
  found_here (x ∷ xs) (suc i) d h none here =
      skip (p x) (find p xs) x (pass (p x) (find p (take i xs)) x x none)
      ∙ found_here xs i d (omega arith) (rest (p x) (find p (take i xs)) x none) here

  -- one more that doesn't
  none_suc : (xs : List X) (i : ℕ) (d : X) → i < length xs → find p (take i xs) ≡ None → p (get_or xs i d) ≡ false
      → find p (take (suc i) xs) ≡ None
  none_suc [] i d h none here = refl
  none_suc (x ∷ xs) zero d h none here = skip (p x) None x here
  none_suc (x ∷ xs) (suc i) d h none here =
      skip (p x) (find p (take (suc i) xs)) x (pass (p x) (find p (take i xs)) x x none)
      ∙ none_suc xs i d (omega arith) (rest (p x) (find p (take i xs)) x none) here

  pub none_more : (xs : List X) (i : ℕ) (d : X) → i < length xs → find p (take i xs) ≡ None → p (get_or xs i d) ≡ false
      → find p (take (i + 1) xs) ≡ None
  none_more xs i d h none here = rw add-one (none_suc xs i d h none here)

-- the element after a list
get_behind : {X : Type 0} (xs ys : List X) (x : X) → slice_get (xs ++ x ∷ ys) (length xs) ≡ Some x
get_behind [] ys x = refl
get_behind (y ∷ xs) ys x = get_behind xs ys x

passing : {X : Type 0} (p : X → Bool) (x : X) → p x ≡ true → filter p (x ∷ []) ≡ x ∷ []
passing p x h = ap (λ b. cond b (x ∷ []) []) h

-- those that pass, around one of them
around : {X : Type 0} (p : X → Bool) (xs : List X) (i : ℕ) (d : X) → i < length xs → p (get_or xs i d) ≡ true
    → filter p xs ≡ filter p (take i xs) ++ get_or xs i d ∷ filter p (drop (i + 1) xs)
around p xs i d h here =
    ap (filter p) (sym (take-append-drop (i + 1) xs))
    ∙ filter-append p (take (i + 1) xs) (drop (i + 1) xs)
    ∙ ap (λ ys. filter p ys ++ filter p (drop (i + 1) xs)) (take_more xs i d h)
    ∙ ap (λ ys. ys ++ filter p (drop (i + 1) xs)) (filter-append p (take i xs) (get_or xs i d ∷ []) ∙ ap (λ ys. filter p (take i xs) ++ ys) (passing p (get_or xs i d) here))
    ∙ append_assoc (filter p (take i xs)) (get_or xs i d ∷ []) (filter p (drop (i + 1) xs))

guarded : (b : Bool) (x : Option (List ℕ)) → b ≡ true → (if b then x else None) ≡ x
guarded true x h = refl
guarded false x h = cc

unguarded : (b : Bool) (x : Option (List ℕ)) → (b ≡ true → x ≡ None) → (if b then x else None) ≡ None
unguarded true x h = h refl
unguarded false x h = refl

-- the packet at which the count comes to one
pub nth_here : (posts : List Post) (side : Side) (nth left i : ℕ) (d : Post) → i < length posts
    → left ≡ nth - length (filter (is_from_peer side) (take i posts)) → left ≡ 1
    → is_from_peer side (get_or posts i d) ≡ true → held_nth posts side nth ≡ Some (get_or posts i d).packet
nth_here posts side nth left i d h counted one here =
    let before : length (filter (is_from_peer side) (take i posts)) ≡ nth - 1 = omega arith in
    let some : 1 ≤ nth = omega arith in
    let test : nat_le 1 nth ≡ true = grind (arith, nat_tests) in
    guarded (nat_le 1 nth) _ test
    ∙ ap (λ n. option_map (λ (post : Post). post.packet) (slice_get (filter (is_from_peer side) posts) n)) (sym before)
    ∙ ap (λ xs. option_map (λ (post : Post). post.packet) (slice_get xs (length (filter (is_from_peer side) (take i posts))))) (around (is_from_peer side) posts i d h here)
    ∙ ap (option_map (λ (post : Post). post.packet)) (get_behind (filter (is_from_peer side) (take i posts)) (filter (is_from_peer side) (drop (i + 1) posts)) (get_or posts i d))

-- fewer packets than the count
pub too_few : (posts : List Post) (side : Side) (nth left i : ℕ) → length posts ≤ i
    → left ≡ nth - length (filter (is_from_peer side) (take i posts)) → (1 ≤ nth → 1 ≤ left) → held_nth posts side nth ≡ None
too_few posts side nth left i all counted more =
    let whole : length (filter (is_from_peer side) (take i posts)) ≡ length (filter (is_from_peer side) posts) = ap (λ xs. length (filter (is_from_peer side) xs)) (take_all i posts all) in
    unguarded (nat_le 1 nth) _ (λ test.
    let some : 1 ≤ nth = grind (arith, nat_tests) in
    let past : length (filter (is_from_peer side) posts) ≤ nth - 1 = omega (arith, more some) in
    ap (option_map (λ (post : Post). post.packet)) (slice_get_past (filter (is_from_peer side) posts) (nth - 1) past))
