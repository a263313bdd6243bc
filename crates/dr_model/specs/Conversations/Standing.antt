-- Which of the positions that a side opened still stand in its inbox: those that aren't done.
use Rattle.std.specs.Prelude.{◌≡◌, ⊤, ℕ, Bool, true, false, not, All, List, [], ◌∷◌, ◌++◌, filter, take}
use Rattle.std.specs.List.{list_any}
use Rattle.dr_base.specs.Position.{is_at}
use Rattle.dr_base.specs.declared.position.Position.{Position}

abbrev pub is_in : List Position → Position → Bool
is_in list p = list_any (is_at p) list

-- those that stand, in the order that they arrived
abbrev pub standing : List Position → List Position → List Position
standing arrived done = filter (λ p. not (is_in done p)) arrived

-- n of the oldest that stand are done too
abbrev pub done_first : List Position → List Position → ℕ → List Position
done_first arrived done n = done ++ take n (standing arrived done)

-- those of them that pass a test are done too
abbrev pub done_which : (Position → Bool) → List Position → List Position → List Position
done_which goes arrived done = done ++ filter goes (standing arrived done)

-- each position once
abbrev pub AreApart : List Position → Type 0
AreApart [] = ⊤
AreApart (p ∷ list) = (is_in list p ≡ false) × AreApart list

-- each that is done is so once, and arrived
pub record AreDone (arrived done : List Position) : Type 0 where
  pub once : AreApart done
  pub had : All (λ p. is_in arrived p ≡ true) done
