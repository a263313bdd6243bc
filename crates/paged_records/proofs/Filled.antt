-- Bytes behind which there are zeros are the pages of what stands before these.
use Rattle.std.proofs.Common.{◌≡◌, ℕ, zero, suc, ◌+◌, ◌-◌, ◌*◌, ◌≤◌, List, [], ◌∷◌, ◌++◌, length, take, drop, replicate, refl, sym, ◌∙◌, ap, ap₂, arith, length-drop}
use Rattle.std.proofs.lemmas.Grind.{div_ceil_times}
use Rattle.std.proofs.lemmas.List.{drop-replicate, length-take-le, take-append-drop, take-replicate, take-take}
use Rattle.dr_base.specs.declared.limits.TheConstants.{PAGE}
use Rattle.record_pages.specs.Pages.{cut, page_count, pages_in, pages_of}
use Rattle.paged_records.proofs.ReadPages.{cut_same}

-- a record fits its pages
pub page_room : (len : ℕ) → len ≤ PAGE * page_count len
page_room len = omega (arith, (div_ceil_times len PAGE (omega arith)).0)

filled_take : (p : ℕ) (text : List ℕ) (z : ℕ) → p ≤ length text + z
    → take p text ++ replicate (p - length (take p text)) 0 ≡ take p (text ++ replicate z 0)
filled_take zero text z fits = refl
filled_take (suc p) [] z fits =
    ap (λ k. replicate k 0) (let e : suc p - 0 ≡ suc p = omega arith in e)
    ∙ sym (take-replicate (suc p) z 0 (omega arith))
filled_take (suc p) (x ∷ text) z fits = ap (λ (l : List ℕ). x ∷ l)
    (ap (λ k. take p text ++ replicate k 0) (let e : suc p - suc (length (take p text)) ≡ p - length (take p text) = omega arith in e)
    ∙ filled_take p text z (omega arith))

filled_drop : (p : ℕ) (text : List ℕ) (z : ℕ)
    → drop p (text ++ replicate z 0) ≡ drop p text ++ replicate (z - (p - length text)) 0
filled_drop zero text z = ap (λ k. text ++ replicate k 0) (let e : z ≡ z - (0 - length text) = omega arith in e)
filled_drop (suc p) [] z =
    drop-replicate (suc p) z 0 ∙ ap (λ k. replicate k 0) (let e : z - suc p ≡ z - (suc p - 0) = omega arith in e)
filled_drop (suc p) (x ∷ text) z =
    filled_drop p text z
    ∙ ap (λ k. drop p text ++ replicate k 0) (let e : z - (p - length text) ≡ z - (suc p - suc (length text)) = omega arith in e)

filled_cut : (n : ℕ) (text : List ℕ) (z : ℕ) → PAGE * n ≤ length text + z → pages_of n text ≡ cut n (text ++ replicate z 0)
filled_cut zero text z fits = refl
filled_cut (suc n) text z fits = ap₂ (λ (p : List ℕ) (ps : List (List ℕ)). p ∷ ps)
    (filled_take PAGE text z (omega arith))
    (filled_cut n (drop PAGE text) (z - (PAGE - length text)) (omega (arith, length-drop PAGE text))
    ∙ ap (λ (l : List ℕ). cut n l) (sym (filled_drop PAGE text z)))

-- the first n pages of these bytes have a record and zeros
pub cut_filled : (n len : ℕ) (bytes : List ℕ) → n ≡ page_count len → PAGE * n ≤ length bytes
    → drop len (take (PAGE * n) bytes) ≡ replicate (length (drop len (take (PAGE * n) bytes))) 0
    → pages_in (take len bytes) ≡ cut n bytes
cut_filled n len bytes count fits zeros =
    ap (λ k. pages_of (page_count k) (take len bytes)) long
    ∙ ap (λ k. pages_of k (take len bytes)) (sym count)
    ∙ filled_cut n (take len bytes) z (omega (arith, long, size))
    ∙ sym (cut_same n bytes (take len bytes ++ replicate z 0)
    (sym (take-take (PAGE * n) (PAGE * n) bytes (omega arith)) ∙ ap (λ (l : List ℕ). take (PAGE * n) l) whole))
  where
    room : len ≤ PAGE * n
    room = omega (arith, page_room len, count)

    z : ℕ
    z = length (drop len (take (PAGE * n) bytes))

    long : length (take len bytes) ≡ len
    long = length-take-le len bytes (omega (arith, room))

    size : z ≡ PAGE * n - len
    size = length-drop len (take (PAGE * n) bytes) ∙ ap (λ k. k - len) (length-take-le (PAGE * n) bytes fits)

    whole : take (PAGE * n) bytes ≡ take len bytes ++ replicate z 0
    whole = sym (take-append-drop len (take (PAGE * n) bytes))
        ∙ ap₂ (λ (x y : List ℕ). x ++ y) (take-take len (PAGE * n) bytes room) zeros
