-- Words without a byte that is less than a digit.
use Rattle.std.proofs.Common.{Bool, List, [], arith, false, if◌then◌else◌, refl, suc, true, zero, ℕ, ◌+◌, ◌++◌, ◌/◌, ◌%◌, ◌<◌, ◌==◌, ◌∷◌, ◌≡◌}
use Rattle.std.specs.Fmt.{digit_glyph, digits, digits_onto}
use Rattle.std.specs.Prelude.{All, decimal, nat_lt}
use Rattle.std.proofs.lemmas.Bool.Decides.{nat_tests}
use Rattle.std.proofs.lemmas.List.Elements.{All-append, All-cons, All-nil}

module _ (cut : ℕ) where
  abbrev pub is_cut : ℕ → Bool
  is_cut b = b == cut

  abbrev pub IsPlain : List ℕ → Type 0
  IsPlain = All (λ b. is_cut b ≡ false)

  pub both : (xs ys : List ℕ) → IsPlain xs → IsPlain ys → IsPlain (xs ++ ys)
  both = All-append (λ b. is_cut b ≡ false)

  -- ---- words that are known

  unfoldable pub plain_words : List ℕ → Bool
  plain_words [] = true
  plain_words (b ∷ bytes) = if is_cut b then false else plain_words bytes

  plain_first : (b : ℕ) (bytes : List ℕ) (test : Bool) → is_cut b ≡ test
      → (if test then false else plain_words bytes) ≡ true
      → (plain_words bytes ≡ true → IsPlain bytes) → IsPlain (b ∷ bytes)
  plain_first b bytes true e is rest = absurd (let no_words : false ≡ true = is in cc)
  plain_first b bytes false e is rest = All-cons (λ x. is_cut x ≡ false) b bytes e (rest is)

  pub plain : (bytes : List ℕ) → plain_words bytes ≡ true → IsPlain bytes
  unfolding plain_words
  plain [] is = All-nil (λ b. is_cut b ≡ false)
  plain (b ∷ bytes) is = plain_first b bytes (is_cut b) refl is (plain bytes)

  -- ---- numbers

  module _ (low : cut < 48) where
    plain_digit : (d : ℕ) (small : Bool)
        → is_cut (if small then 48 + d else 87 + d) ≡ false
    plain_digit d true = grind (arith, nat_tests)
    plain_digit d false = grind (arith, nat_tests)

    plain_glyph : (d : ℕ) → is_cut (digit_glyph false d) ≡ false
    plain_glyph d = plain_digit d (nat_lt d 10)

    plain_onto : (k n : ℕ) (bytes : List ℕ) → IsPlain bytes
        → IsPlain (digits_onto k 10 false n bytes)
    plain_onto zero n bytes is = is
    plain_onto (suc k) n bytes is =
        let glyph = digit_glyph false (n % 10) in
        let more : IsPlain (glyph ∷ bytes) =
        All-cons (λ b. is_cut b ≡ false) glyph bytes (plain_glyph (n % 10)) is in
        by_last (n / 10 == 0) (glyph ∷ bytes) (digits_onto k 10 false (n / 10) (glyph ∷ bytes)) more
        (plain_onto k (n / 10) (glyph ∷ bytes) more)
      where
        by_last : (last : Bool) (one other : List ℕ) → IsPlain one → IsPlain other
            → IsPlain (if last then one else other)
        by_last true one other is is_other = is
        by_last false one other is is_other = is_other

    pub plain_number : (n : ℕ) → IsPlain (decimal n)
    unfolding digits
    plain_number n = plain_onto 64 n [] (All-nil (λ b. is_cut b ≡ false))
