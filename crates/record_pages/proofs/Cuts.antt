-- The pages of a record, one after the other.
use Rattle.std.proofs.Common.{◌≡◌, ℕ, zero, suc, ◌+◌, ◌*◌, ◌<◌, ◌≤◌, List, [], ◌∷◌, length, take, drop, ◌-◌, refl, ap, ◌∙◌, arith, length-drop}
use Rattle.std.proofs.lemmas.List.{drop-drop, drop_all}
use Rattle.dr_base.specs.declared.limits.TheConstants.{PAGE}
use Rattle.record_pages.specs.Pages.{cut, filled_page, page_at, pages_of}

later : (at : ℕ) (bytes : List ℕ) → page_at (drop PAGE bytes) at ≡ page_at bytes (suc at)
later at bytes = ap (λ l. take PAGE l) (drop-drop (PAGE * at) PAGE bytes ∙ ap (λ k. drop k bytes) (let e : PAGE + PAGE * at ≡ PAGE * suc at = omega arith in e))

pub cut_from : (n at : ℕ) (bytes : List ℕ) → at < n → drop at (cut n bytes) ≡ page_at bytes at ∷ drop (suc at) (cut n bytes)
cut_from zero at bytes lt = absurd (omega arith)
cut_from (suc n) zero bytes lt = refl
cut_from (suc n) (suc at) bytes lt =
    cut_from n at (drop PAGE bytes) (omega arith)
    ∙ ap (λ (page : List ℕ). page ∷ drop (suc at) (cut n (drop PAGE bytes))) (later at bytes)

pub pages_from : (n at : ℕ) (text : List ℕ) → at < n → drop at (pages_of n text) ≡ filled_page (page_at text at) ∷ drop (suc at) (pages_of n text)
pages_from zero at text lt = absurd (omega arith)
pages_from (suc n) zero text lt = refl
pages_from (suc n) (suc at) text lt =
    pages_from n at (drop PAGE text) (omega arith)
    ∙ ap (λ (page : List ℕ). filled_page page ∷ drop (suc at) (pages_of n (drop PAGE text))) (later at text)

pub cut_long : (n : ℕ) (bytes : List ℕ) → length (cut n bytes) ≡ n
cut_long zero bytes = refl
cut_long (suc n) bytes = ap suc (cut_long n (drop PAGE bytes))

pub pages_long : (n : ℕ) (text : List ℕ) → length (pages_of n text) ≡ n
pages_long zero text = refl
pages_long (suc n) text = ap suc (pages_long n (drop PAGE text))

pub cut_end : (n at : ℕ) (bytes : List ℕ) → n ≤ at → drop at (cut n bytes) ≡ []
cut_end n at bytes le = drop_all at (cut n bytes) (omega (arith, cut_long n bytes))

pub pages_end : (n : ℕ) (text : List ℕ) → drop n (pages_of n text) ≡ []
pages_end n text = drop_all n (pages_of n text) (omega (arith, pages_long n text))

pub cut_rest : (n at : ℕ) (bytes : List ℕ) → length (drop at (cut n bytes)) ≡ n - at
cut_rest n at bytes = length-drop at (cut n bytes) ∙ ap (λ k. k - at) (cut_long n bytes)
