-- A list whose entries are what a function gives for those of another.
use Rattle.std.proofs.Common.{◌≡◌, ℕ, ◌<◌, List, length, get_or, map, sym, ◌∙◌, arith}
use Rattle.std.proofs.lemmas.List.{ext_get_or, length-map, get_or-map}

pub mapped : {X Y : Type 0} (f : X → Y) (d : X) (e : Y) (xs : List X) (ys : List Y) → length ys ≡ length xs
    → ((j : ℕ) → j < length xs → get_or ys j e ≡ f (get_or xs j d)) → ys ≡ map f xs
mapped f d e xs ys long h =
    ext_get_or e ys (map f xs) (long ∙ sym (length-map xs f)) (λ i here.
    let inside : i < length xs = omega arith in
    h i inside ∙ sym (get_or-map f xs i d e inside))
