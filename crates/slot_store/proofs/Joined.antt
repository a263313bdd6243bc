-- A record's pages, one after the other: the record, and zeros.
use Rattle.std.proofs.Common.{◌≡◌, ⊎_elim, ℕ, zero, suc, ◌+◌, ◌-◌, ◌*◌, ◌≤◌, ◌<◌, List, [], ◌∷◌, ◌++◌, length, take, drop, replicate, None, refl, sym, ◌∙◌, ap, arith, length-drop, append_assoc}
use Rattle.std.proofs.lemmas.Bool.{cases_lt}
use Rattle.std.proofs.lemmas.List.{length-take-le, take-append-drop, take_all, drop_all}
use Rattle.std.proofs.Math.Seq.{drop-append_seam}
use Rattle.dr_base.specs.declared.limits.TheConstants.{PAGE}
use Rattle.record_pages.specs.Pages.{filled_page, joined, pages_of}
use Rattle.record_pages.specs.Tables.{nonzero_from}

pub zeros_none : (n at : ℕ) → nonzero_from at (replicate n 0) ≡ None
zeros_none zero at = refl
zeros_none (suc n) at = zeros_none n (at + 1)

pub zeros_more : (m n : ℕ) → replicate {A = ℕ} m 0 ++ replicate {A = ℕ} n 0 ≡ replicate (m + n) 0
zeros_more zero n = ap (λ k. replicate {A = ℕ} k 0) (let e : n ≡ 0 + n = omega arith in e)
zeros_more (suc m) n = ap (λ (l : List ℕ). 0 ∷ l) (zeros_more m n)
    ∙ ap (λ k. replicate k 0) (let e : suc (m + n) ≡ suc m + n = omega arith in e)

pub joined_filled : (n : ℕ) (text : List ℕ) → length text ≤ PAGE * n
    → joined (pages_of n text) ≡ text ++ replicate (PAGE * n - length text) 0
joined_filled zero [] fits = refl
joined_filled zero (b ∷ text) fits = absurd (omega arith)
joined_filled (suc n) text fits =
    ap (λ (l : List ℕ). filled_page (take PAGE text) ++ l)
    (joined_filled n (drop PAGE text) (omega (arith, length-drop PAGE text)))
    ∙ ⊎_elim short long (cases_lt (length text) (PAGE + 1))
  where
    Goal : Type 0
    Goal = filled_page (take PAGE text) ++ (drop PAGE text ++ replicate (PAGE * n - length (drop PAGE text)) 0)
        ≡ text ++ replicate (PAGE * suc n - length text) 0

    short : length text < PAGE + 1 → Goal
    short lt =
        let front : take PAGE text ≡ text = take_all PAGE text (omega arith) in
        let back : drop PAGE text ≡ [] = drop_all PAGE text (omega arith) in
        ap (λ (t : List ℕ). filled_page t ++ (drop PAGE text ++ replicate (PAGE * n - length (drop PAGE text)) 0)) front
        ∙ ap (λ (t : List ℕ). filled_page text ++ (t ++ replicate (PAGE * n - length t) 0)) back
        ∙ append_assoc text (replicate (PAGE - length text) 0) (replicate (PAGE * n - 0) 0)
        ∙ ap (λ (l : List ℕ). text ++ l) (zeros_more (PAGE - length text) (PAGE * n - 0))
        ∙ ap (λ k. text ++ replicate k 0)
        (let e : PAGE - length text + (PAGE * n - 0) ≡ PAGE * suc n - length text = omega (arith, lt) in e)

    long : PAGE + 1 ≤ length text → Goal
    long ge =
        let size : length (take PAGE text) ≡ PAGE = length-take-le PAGE text (omega arith) in
        let none : PAGE - length (take PAGE text) ≡ 0 = omega (arith, size) in
        ap (λ k. (take PAGE text ++ replicate k 0) ++ (drop PAGE text ++ replicate (PAGE * n - length (drop PAGE text)) 0)) none
        ∙ append_assoc (take PAGE text) [] (drop PAGE text ++ replicate (PAGE * n - length (drop PAGE text)) 0)
        ∙ sym (append_assoc (take PAGE text) (drop PAGE text) (replicate (PAGE * n - length (drop PAGE text)) 0))
        ∙ ap (λ (t : List ℕ). t ++ replicate (PAGE * n - length (drop PAGE text)) 0) (take-append-drop PAGE text)
        ∙ ap (λ k. text ++ replicate k 0)
        (let e : PAGE * n - length (drop PAGE text) ≡ PAGE * suc n - length text = omega (arith, length-drop PAGE text, ge) in e)

-- so the zeros behind the record
pub joined_rest : (n : ℕ) (text : List ℕ) → length text ≤ PAGE * n
    → drop (length text) (joined (pages_of n text)) ≡ replicate (PAGE * n - length text) 0
joined_rest n text fits = ap (λ (l : List ℕ). drop (length text) l) (joined_filled n text fits)
    ∙ drop-append_seam text (replicate (PAGE * n - length text) 0)
