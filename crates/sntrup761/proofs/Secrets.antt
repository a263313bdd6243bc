-- What a lawful secret has, and where a bad byte can stand.
use Rattle.std.proofs.Common.{◌≡◌, inl, inr, ℕ, zero, suc, ◌+◌, ◌<◌, Bool, Option, Some, None, List, refl, sym, ◌∙◌, arith}
use Rattle.std.specs.List.{find, range_with_len}
use Rattle.std.specs.Option.{option_map, option_or}
use Rattle.std.proofs.lemmas.Bool.{cases_Bool, cond-true, cond-false}
use Rattle.ntru_codec.specs.Small.{is_bad, first_bad}
use Rattle.std.specs.Prelude.{slice_index}
use Rattle.sntrup761.specs.Mechanism.{part, bad_byte}

find-below : (p : ℕ → Bool) (n a k : ℕ) → find p (range_with_len a n) ≡ Some k → k < a + n
find-below p zero a k e = absurd (let f : None ≡ Some k = e in cc)
find-below p (suc n) a k e =
    elim (cases_Bool (p a)) [
      | inl t ↦
          let found : Some a ≡ Some k = sym (cond-true (p a) (Some a) (find p (range_with_len (a + 1) n)) t) ∙ e in
          let same : a ≡ k = cc in
          omega arith
      | inr f ↦
          let rest = find-below p n (a + 1) k (sym (cond-false (p a) (Some a) (find p (range_with_len (a + 1) n)) f) ∙ e) in
          omega arith
    ]

-- a bad byte stands within the 191 bytes
pub bad-below : (bytes : List ℕ) (k : ℕ) → first_bad bytes ≡ Some k → k < 191
unfolding first_bad
bad-below bytes k e = find-below (λ j. is_bad j (slice_index bytes j)) 191 0 k e

neither : (o p : Option ℕ) (f : ℕ → ℕ) → option_or o (option_map f p) ≡ None → (o ≡ None) × (p ≡ None)
neither None None f e = (refl, refl)
neither None (Some k) f e = absurd (let n : Some (f k) ≡ None = e in cc)
neither (Some k) p f e = absurd (let n : Some k ≡ None = e in cc)

-- both small parts of a lawful secret are good
pub lawful-parts : (secret : List ℕ) → bad_byte secret ≡ None
    → (first_bad (part 0 191 secret) ≡ None) × (first_bad (part 191 191 secret) ≡ None)
unfolding bad_byte
lawful-parts secret e = neither (first_bad (part 0 191 secret)) (first_bad (part 191 191 secret)) (λ at. 191 + at) e
