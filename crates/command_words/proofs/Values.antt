-- The values of a command, word by word.
use Rattle.std.proofs.Common.{◌≡◌, ◌∙◌, ℕ, suc, ◌+◌, ◌++◌, Bool, true, false, cond, refl, ap, ap₂, arith, take, drop, List, [], ◌∷◌, Option, Some, None}
use Rattle.std.specs.List.{list_any, before_first, after_first, position_or_len}
use Rattle.std.specs.Option.{option_map}
use Rattle.command_words.specs.Values.{is_separator, is_flag, values_of}

pub values-none : values_of [] ≡ Some []
unfolding values_of
values-none = refl

pub values-separator : (word : List ℕ) (rest : List (List ℕ)) → is_separator word ≡ true → values_of (word ∷ rest) ≡ Some rest
unfolding values_of
values-separator word rest e = rw e refl

next_place : (word : List ℕ) (rest : List (List ℕ)) → is_separator word ≡ false
    → position_or_len is_separator (word ∷ rest) ≡ suc (position_or_len is_separator rest)
next_place word rest e = rw e (omega arith)

abbrev joined : List (List ℕ) → List (List ℕ) → Option (List (List ℕ))
joined front back = cond (list_any is_flag front) None (Some (front ++ back))

-- a word that isn't the separator stands in front
in_front : (word : List ℕ) (rest : List (List ℕ)) → is_separator word ≡ false
    → values_of (word ∷ rest) ≡ joined (word ∷ before_first is_separator rest) (after_first is_separator rest)
unfolding values_of
in_front word rest e =
    let place = next_place word rest e in
    let past : position_or_len is_separator (word ∷ rest) + 1 ≡ suc (position_or_len is_separator rest + 1) = omega arith in
    ap₂ joined (ap (λ n. take n (word ∷ rest)) place) (ap (λ n. drop n (word ∷ rest)) past)

pub values-flag : (word : List ℕ) (rest : List (List ℕ)) → is_separator word ≡ false → is_flag word ≡ true → values_of (word ∷ rest) ≡ None
values-flag word rest e f = in_front word rest e ∙ rw f refl

pub values-plain : (word : List ℕ) (rest : List (List ℕ)) → is_separator word ≡ false → is_flag word ≡ false
    → values_of (word ∷ rest) ≡ option_map (λ values. word ∷ values) (values_of rest)
unfolding values_of
values-plain word rest e f = in_front word rest e ∙ rw f (go (list_any is_flag (before_first is_separator rest)))
  where
    go : (b : Bool) → cond b None (Some (word ∷ before_first is_separator rest ++ after_first is_separator rest))
        ≡ option_map (λ values. word ∷ values) (cond b None (Some (before_first is_separator rest ++ after_first is_separator rest)))
    go true = refl
    go false = refl
