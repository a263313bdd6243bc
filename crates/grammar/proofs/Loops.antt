-- What a loop that reads items one by one knows: before the first, after one more, and at a fault.
use Rattle.std.proofs.Common.{◌≡◌, ℕ, zero, suc, ◌+◌, ◌<◌, List, [], ◌∷◌, ◌++◌, Ok, Err, refl, ◌∙◌, ap, subst, arith, inl, inr}
use Rattle.std.specs.Prelude.{◌⊎◌}
use Rattle.std.proofs.lemmas.Bool.{cases_lt}
use Rattle.grammar.specs.Reader.{Read, Reader, and_then, gives, items}

module _ {A : Type 0} (read : List A → Reader A) (at : ℕ) (bytes : List ℕ) where
  abbrev pushed : List A → A → Reader (List A)
  pushed before a = gives (before ++ a ∷ [])

  abbrev one_more : List A → Reader (List A)
  one_more before at' rest = and_then (read before at' rest) (pushed before)

  pub items-none : items read 0 at bytes ≡ Ok (record { value = []; at = at; rest = bytes })
  unfolding items
  items-none = refl

  pub items-more : (n : ℕ) (before : Read (List A)) (a : Read A) → items read n at bytes ≡ Ok before
      → read before.value before.at before.rest ≡ Ok a
      → items read (n + 1) at bytes ≡ Ok (record { value = before.value ++ a.value ∷ []; at = a.at; rest = a.rest })
  unfolding items
  items-more n before a were next =
      let one : n + 1 ≡ suc n = omega arith in
      ap (λ m. items read m at bytes) one ∙ ap (λ r. and_then r one_more) were ∙ ap (λ r. and_then r (pushed before.value)) next

  pub items-fault : (n : ℕ) (before : Read (List A)) (f : ℕ) → items read n at bytes ≡ Ok before
      → read before.value before.at before.rest ≡ Err f → (m : ℕ) → n < m → items read m at bytes ≡ Err f
  unfolding items
  items-fault n before f were next zero small = absurd (omega arith)
  items-fault n before f were next (suc m) small = by_place (λ below. items-fault n before f were next m below) (here n m small)
    where
      here : (n m : ℕ) → n < suc m → (n ≡ m) ⊎ (n < m)
      here n m small = elim (cases_lt n m) [ inl below ↦ inr below | inr not ↦ inl (omega arith) ]

      by_place : (n < m → items read m at bytes ≡ Err f) → (n ≡ m) ⊎ (n < m) → items read (suc m) at bytes ≡ Err f
      by_place earlier (inl same) =
          ap (λ r. and_then r one_more) (subst (λ k. items read k at bytes ≡ Ok before) same were)
          ∙ ap (λ r. and_then r (pushed before.value)) next
      by_place earlier (inr below) = ap (λ r. and_then r one_more) (earlier below)
