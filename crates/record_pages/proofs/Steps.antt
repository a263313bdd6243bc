-- One place more of a plan.
use Rattle.std.proofs.Common.{◌≡◌, ⊎_elim, ℕ, zero, suc, ◌<◌, ◌≤◌, Bool, true, false, List, [], ◌∷◌, ◌++◌, length, take, drop, refl, sym, ap, ◌∙◌, arith}
use Rattle.std.specs.Prelude.{◌&&◌, nat_lt, slice_index, if◌then◌else◌}
use Rattle.std.specs.Str.{bytes_eq}
use Rattle.std.proofs.lemmas.Bool.{cases_lt}
use Rattle.std.proofs.lemmas.Bool.Decides.{nat_tests}
use Rattle.std.proofs.lemmas.List.{drop_all}
use Rattle.record_pages.specs.Pages.{cut, filled_page, page_at, pages_of}
use Rattle.record_pages.specs.Plans.{changed_places, dropped, numbered, stays_at}
use Rattle.record_pages.proofs.Cuts.{cut_end, cut_from, pages_from}

pub head_from : (l : List ℕ) (at : ℕ) → at < length l → drop at l ≡ slice_index l at ∷ drop (suc at) l
head_from [] at lt = absurd (omega arith)
head_from (x ∷ l) zero lt = refl
head_from (x ∷ l) (suc at) lt = head_from l at (omega arith)

module _ (held count : ℕ) (bytes text numbers : List ℕ) (at : ℕ) (each : length numbers ≡ held) (lt : at < count) where
  abbrev old : List (List ℕ)
  old = cut held bytes

  abbrev new : List (List ℕ)
  new = pages_of count text

  abbrev was : List ℕ
  was = page_at bytes at

  abbrev page : List ℕ
  page = filled_page (page_at text at)

  abbrev n : ℕ
  n = slice_index numbers at

  -- where the record has a page there
  module _ (has : at < held) where
    decides : (b : Bool) → stays_at held bytes text at ≡ b → bytes_eq was page ≡ b
    decides b is = ap (λ t. t && bytes_eq was page) (let e : true ≡ nat_lt at held = grind (arith, nat_tests) in e) ∙ is

    abbrev heads : {A : Type 0} → (List (List ℕ) → List ℕ → List (List ℕ) → A) → Type 0
    heads F = F (drop at old) (drop at numbers) (drop at new) ≡ F (was ∷ drop (suc at) old) (n ∷ drop (suc at) numbers) (page ∷ drop (suc at) new)

    by_heads : {A : Type 0} (F : List (List ℕ) → List ℕ → List (List ℕ) → A) → heads F
    by_heads F =
        ap (λ (l : List (List ℕ)). F l (drop at numbers) (drop at new)) (cut_from held at bytes has)
        ∙ ap (λ (l : List ℕ). F (was ∷ drop (suc at) old) l (drop at new)) (head_from numbers at (omega (arith, each, has)))
        ∙ ap (λ (l : List (List ℕ)). F (was ∷ drop (suc at) old) (n ∷ drop (suc at) numbers) l) (pages_from count at text lt)

    one : take 1 (drop at numbers) ≡ n ∷ []
    one = ap (λ (l : List ℕ). take 1 l) (head_from numbers at (omega (arith, each, has)))

  -- where it has none
  module _ (none : held ≤ at) where
    blank : (b : Bool) → stays_at held bytes text at ≡ b → false ≡ b
    blank b is = ap (λ t. t && bytes_eq was page) (let e : false ≡ nat_lt at held = grind (arith, nat_tests) in e) ∙ is

    by_none : {A : Type 0} (F : List (List ℕ) → List ℕ → List (List ℕ) → A) → F (drop at old) (drop at numbers) (drop at new) ≡ F [] [] (page ∷ drop (suc at) new)
    by_none F =
        ap (λ (l : List (List ℕ)). F l (drop at numbers) (drop at new)) (cut_end held at bytes none)
        ∙ ap (λ (l : List ℕ). F [] l (drop at new)) (drop_all at numbers (omega (arith, each, none)))
        ∙ ap (λ (l : List (List ℕ)). F [] [] l) (pages_from count at text lt)

    then_none : {A : Type 0} (F : List (List ℕ) → List ℕ → A) → F [] [] ≡ F (drop (suc at) old) (drop (suc at) numbers)
    then_none F =
        ap (λ (l : List (List ℕ)). F l []) (sym (cut_end held (suc at) bytes (omega (arith, none))))
        ∙ ap (λ (l : List ℕ). F (drop (suc at) old) l) (sym (drop_all (suc at) numbers (omega (arith, each, none))))

    nothing : take 1 (drop at numbers) ≡ []
    nothing = ap (λ (l : List ℕ). take 1 l) (drop_all at numbers (omega (arith, each, none)))

  -- ---- the page stays
  pub stands : stays_at held bytes text at ≡ true → at < held
  stands is = ⊎_elim (λ has. has) (λ none. absurd (let e : false ≡ true = blank none true is in cc)) (cases_lt at held)

  module _ (is : stays_at held bytes text at ≡ true) where
    pub kept_numbers : (f : List ℕ) → numbered (drop at old) (drop at numbers) (drop at new) f
        ≡ take 1 (drop at numbers) ++ numbered (drop (suc at) old) (drop (suc at) numbers) (drop (suc at) new) f
    kept_numbers f =
        by_heads (stands is) (λ a b c. numbered a b c f)
        ∙ ap (λ t. if t then n ∷ numbered (drop (suc at) old) (drop (suc at) numbers) (drop (suc at) new) f
        else slice_index f 0 ∷ numbered (drop (suc at) old) (drop (suc at) numbers) (drop (suc at) new) (drop 1 f)) (decides (stands is) true is)
        ∙ ap (λ (l : List ℕ). l ++ numbered (drop (suc at) old) (drop (suc at) numbers) (drop (suc at) new) f) (sym (one (stands is)))

    pub kept_places : changed_places at (drop at old) (drop at new) ≡ changed_places (suc at) (drop (suc at) old) (drop (suc at) new)
    kept_places =
        by_heads (stands is) (λ a b c. changed_places at a c)
        ∙ ap (λ t. if t then changed_places (suc at) (drop (suc at) old) (drop (suc at) new) else at ∷ changed_places (suc at) (drop (suc at) old) (drop (suc at) new)) (decides (stands is) true is)

    pub kept_dropped : dropped (drop at old) (drop at numbers) (drop at new) ≡ dropped (drop (suc at) old) (drop (suc at) numbers) (drop (suc at) new)
    kept_dropped =
        by_heads (stands is) (λ a b c. dropped a b c)
        ∙ ap (λ t. if t then dropped (drop (suc at) old) (drop (suc at) numbers) (drop (suc at) new) else n ∷ dropped (drop (suc at) old) (drop (suc at) numbers) (drop (suc at) new)) (decides (stands is) true is)

  -- ---- the page changes, or is one more
  module _ (isnt : stays_at held bytes text at ≡ false) where
    pub new_numbers : (f : List ℕ) → numbered (drop at old) (drop at numbers) (drop at new) f
        ≡ slice_index f 0 ∷ numbered (drop (suc at) old) (drop (suc at) numbers) (drop (suc at) new) (drop 1 f)
    new_numbers f = ⊎_elim
        (λ has. by_heads has (λ a b c. numbered a b c f)
        ∙ ap (λ t. if t then n ∷ numbered (drop (suc at) old) (drop (suc at) numbers) (drop (suc at) new) f
        else slice_index f 0 ∷ numbered (drop (suc at) old) (drop (suc at) numbers) (drop (suc at) new) (drop 1 f)) (decides has false isnt))
        (λ none. by_none none (λ a b c. numbered a b c f)
        ∙ then_none none (λ a b. slice_index f 0 ∷ numbered a b (drop (suc at) new) (drop 1 f)))
        (cases_lt at held)

    pub new_places : changed_places at (drop at old) (drop at new) ≡ at ∷ changed_places (suc at) (drop (suc at) old) (drop (suc at) new)
    new_places = ⊎_elim
        (λ has. by_heads has (λ a b c. changed_places at a c)
        ∙ ap (λ t. if t then changed_places (suc at) (drop (suc at) old) (drop (suc at) new) else at ∷ changed_places (suc at) (drop (suc at) old) (drop (suc at) new)) (decides has false isnt))
        (λ none. by_none none (λ a b c. changed_places at a c) ∙ then_none none (λ a b. at ∷ changed_places (suc at) a (drop (suc at) new)))
        (cases_lt at held)

    pub new_dropped : dropped (drop at old) (drop at numbers) (drop at new) ≡ take 1 (drop at numbers) ++ dropped (drop (suc at) old) (drop (suc at) numbers) (drop (suc at) new)
    new_dropped = ⊎_elim
        (λ has. by_heads has (λ a b c. dropped a b c)
        ∙ ap (λ t. if t then dropped (drop (suc at) old) (drop (suc at) numbers) (drop (suc at) new) else n ∷ dropped (drop (suc at) old) (drop (suc at) numbers) (drop (suc at) new)) (decides has false isnt)
        ∙ ap (λ (l : List ℕ). l ++ dropped (drop (suc at) old) (drop (suc at) numbers) (drop (suc at) new)) (sym (one has)))
        (λ none. by_none none (λ a b c. dropped a b c) ∙ then_none none (λ a b. dropped a b (drop (suc at) new))
        ∙ ap (λ (l : List ℕ). l ++ dropped (drop (suc at) old) (drop (suc at) numbers) (drop (suc at) new)) (sym (nothing none)))
        (cases_lt at held)
