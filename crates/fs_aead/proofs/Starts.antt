-- The places at which rows begin: they ascend, and are those of the keys that have no key of their epoch before them.
use Rattle.std.proofs.Common.{◌≡◌, ℕ, ◌+◌, ◌<◌, ◌≤◌, Bool, true, cond, List, [], ◌∷◌, ◌++◌, length, get_or, take, drop, refl, sym, ◌∙◌, ap, subst, arith}
use Rattle.std.specs.Prelude.{All, AllPairs, Contains, filter}
use Rattle.std.specs.List.{range_with_len}
use Rattle.std.proofs.lemmas.Bool.{cond-true}
use Rattle.std.proofs.lemmas.List.{drop_more, map-id, take-append-drop}
use Rattle.std.proofs.lemmas.List.Elements.{All-filter, Contains-append_right, filter-append, filter_passes}
use Rattle.std.proofs.lemmas.List.FromFn.{filter_of_map_range_with_len_more, get_or-range_with_len, length-range_with_len}
use Rattle.std.proofs.lemmas.List.Kept.{AllPairs-filter}
use Rattle.std.proofs.lemmas.List.Sums.{count_by-le-length, length-filter}
use Rattle.dr_base.specs.declared.key.Kept.{Kept}
use Rattle.fs_aead.specs.Rows.{begins_row, starts_of}

-- an element that passes stays in a filter
filter-Contains : {X : Type 0} (p : X → Bool) (xs : List X) (x : X) → Contains xs x → p x ≡ true → Contains (filter p xs) x
filter-Contains p xs x there passes =
    let k = there.0 in
    let rest = drop (k + 1) xs in
    let split : xs ≡ take k xs ++ x ∷ rest =
    sym (take-append-drop k xs) ∙ ap (λ ys. take k xs ++ ys) (drop_more xs k x there.1 ∙ ap (λ y. y ∷ rest) there.2) in
    let kept : filter p xs ≡ filter p (take k xs) ++ x ∷ filter p rest =
    ap (filter p) split ∙ filter-append p (take k xs) (x ∷ rest)
    ∙ ap (λ ys. filter p (take k xs) ++ ys) (cond-true (p x) (x ∷ filter p rest) (filter p rest) passes) in
    subst (λ ys. Contains ys x) (sym kept) (Contains-append_right (filter p (take k xs)) (x ∷ filter p rest) x (0, omega arith, refl))

-- the starts below a place
abbrev pub starts_below : List Kept → ℕ → List ℕ
starts_below keys m = filter (begins_row keys) (range_with_len 0 m)

-- with one place more
pub starts_below-more : (keys : List Kept) (m : ℕ)
    → starts_below keys (m + 1) ≡ starts_below keys m ++ cond (begins_row keys m) (m ∷ []) []
starts_below-more keys m =
    let same = λ (n : ℕ). ap (filter (begins_row keys)) (map-id (range_with_len 0 n)) in
    sym (same (m + 1)) ∙ filter_of_map_range_with_len_more (begins_row keys) (λ n. n) 0 m m (omega arith)
    ∙ ap (λ ys. ys ++ cond (begins_row keys m) (m ∷ []) []) (same m)

pub starts_below-few : (keys : List Kept) (m : ℕ) → length (starts_below keys m) ≤ m
starts_below-few keys m =
    omega (arith, length-filter (begins_row keys) (range_with_len 0 m), count_by-le-length (begins_row keys) (range_with_len 0 m), length-range_with_len 0 m)

pub starts_of-nil : starts_of [] ≡ []
unfolding starts_of
starts_of-nil = refl

pub starts_of-below : (keys : List Kept) → starts_of keys ≡ starts_below keys (length keys)
unfolding starts_of
starts_of-below keys = refl

-- each is the place of a key
pub starts-inside : (keys : List Kept) → All (λ s. s < length keys) (starts_of keys)
unfolding starts_of
starts-inside keys =
    let n = length keys in
    All-filter (begins_row keys) (λ s. s < n) (range_with_len 0 n)
    (λ k d below. let less : k < n = omega (arith, length-range_with_len 0 n) in omega (arith, get_or-range_with_len 0 n k d less))

-- and a row begins there
pub starts-begin : (keys : List Kept) → All (λ s. begins_row keys s ≡ true) (starts_of keys)
unfolding starts_of
starts-begin keys = filter_passes (begins_row keys) (range_with_len 0 (length keys))

pub starts-ascend : (keys : List Kept) → AllPairs (λ a b. a < b) (starts_of keys)
unfolding starts_of
starts-ascend keys =
    let n = length keys in
    AllPairs-filter (λ a b. a < b) (begins_row keys) (range_with_len 0 n)
    (λ i j d less below.
    let inside : j < n = omega (arith, length-range_with_len 0 n) in
    omega (arith, get_or-range_with_len 0 n i d (omega arith), get_or-range_with_len 0 n j d inside))

-- each place of a key at which a row begins is among them
pub starts-Contains : (keys : List Kept) (i : ℕ) → i < length keys → begins_row keys i ≡ true → Contains (starts_of keys) i
unfolding starts_of
starts-Contains keys i inside begins =
    let n = length keys in
    let here : get_or (range_with_len 0 n) i i ≡ i = get_or-range_with_len 0 n i i inside ∙ (let none : 0 + i ≡ i = omega arith in none) in
    filter-Contains (begins_row keys) (range_with_len 0 n) i (i, omega (arith, length-range_with_len 0 n), here) begins
