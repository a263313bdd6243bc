-- Pages that were read one after the other into bytes.
use Rattle.std.proofs.Common.{◌≡◌, ℕ, zero, suc, ◌+◌, ◌*◌, ◌≤◌, ◌<◌, List, [], ◌∷◌, ◌++◌, length, take, drop, map, get_or, refl, sym, ◌∙◌, ap, ap₂, arith}
use Rattle.std.proofs.lemmas.List.{drop-drop, drop-take, drop_at, length-take-le, map_more, take-append-drop, take-take}
use Rattle.std.proofs.lemmas.Slice.{take-put_mid, take-put_mid_below}
use borrow.Rule.Slice.PartMut.{put_mid}
use Rattle.dr_base.specs.declared.limits.TheConstants.{PAGE}
use Rattle.record_pages.specs.Pages.{cut, joined, page_at}

pub take_both : (n m : ℕ) (l : List ℕ) → take n l ++ take m (drop n l) ≡ take (n + m) l
take_both n m l =
    ap₂ (λ (x y : List ℕ). x ++ y) (sym (take-take n (n + m) l (omega arith))) (sym (drop-take n m l))
    ∙ take-append-drop n (take (n + m) l)

-- the first n pages are the bytes up to there
pub joined_cut : (n : ℕ) (bytes : List ℕ) → joined (cut n bytes) ≡ take (PAGE * n) bytes
joined_cut zero bytes = refl
joined_cut (suc n) bytes =
    ap (λ (l : List ℕ). take PAGE bytes ++ l) (joined_cut n (drop PAGE bytes))
    ∙ take_both PAGE (PAGE * n) bytes
    ∙ ap (λ k. take k bytes) (let e : PAGE + PAGE * n ≡ PAGE * suc n = omega arith in e)

later : (at : ℕ) (bytes : List ℕ) → page_at (drop PAGE bytes) at ≡ page_at bytes (suc at)
later at bytes =
    ap (λ (l : List ℕ). take PAGE l) (drop-drop (PAGE * at) PAGE bytes
    ∙ ap (λ k. drop k bytes) (let e : PAGE + PAGE * at ≡ PAGE * suc at = omega arith in e))

cut_next : (i : ℕ) (bytes : List ℕ) → cut (suc i) bytes ≡ cut i bytes ++ page_at bytes i ∷ []
cut_next zero bytes = refl
cut_next (suc i) bytes =
    ap (λ (ps : List (List ℕ)). take PAGE bytes ∷ ps) (cut_next i (drop PAGE bytes)
    ∙ ap (λ (p : List ℕ). cut i (drop PAGE bytes) ++ p ∷ []) (later i bytes))

-- what stands behind the first pages is no part of them
pub cut_same : (i : ℕ) (a b : List ℕ) → take (PAGE * i) a ≡ take (PAGE * i) b → cut i a ≡ cut i b
cut_same zero a b is = refl
cut_same (suc i) a b is = ap₂ (λ (p : List ℕ) (ps : List (List ℕ)). p ∷ ps) head
    (cut_same i (drop PAGE a) (drop PAGE b) tail)
  where
    more : PAGE + PAGE * i ≡ PAGE * suc i
    more = omega arith

    whole : take (PAGE + PAGE * i) a ≡ take (PAGE + PAGE * i) b
    whole = ap (λ k. take k a) more ∙ is ∙ ap (λ k. take k b) (sym more)

    head : take PAGE a ≡ take PAGE b
    head = sym (take-take PAGE (PAGE + PAGE * i) a (omega arith)) ∙ ap (λ (l : List ℕ). take PAGE l) whole
        ∙ take-take PAGE (PAGE + PAGE * i) b (omega arith)

    tail : take (PAGE * i) (drop PAGE a) ≡ take (PAGE * i) (drop PAGE b)
    tail = sym (drop-take PAGE (PAGE * i) a) ∙ ap (λ (l : List ℕ). drop PAGE l) whole
        ∙ drop-take PAGE (PAGE * i) b

-- one more page was read, and the bytes before it stayed
pub cut_more : (i : ℕ) (old new page : List ℕ) → take (PAGE * i) new ≡ take (PAGE * i) old → page_at new i ≡ page
    → cut (i + 1) new ≡ cut i old ++ page ∷ []
cut_more i old new page before here =
    ap (λ k. cut k new) (let e : i + 1 ≡ suc i = omega arith in e)
    ∙ cut_next i new
    ∙ ap₂ (λ (ps : List (List ℕ)) (p : List ℕ). ps ++ p ∷ []) (cut_same i new old before) here

pub read_more : (i : ℕ) (old new page numbers : List ℕ) (f : ℕ → List ℕ) → i < length numbers
    → take (PAGE * i) new ≡ take (PAGE * i) old → page_at new i ≡ page → page ≡ f (get_or numbers i 0)
    → cut i old ≡ map f (take i numbers) → cut (i + 1) new ≡ map f (take (i + 1) numbers)
read_more i old new page numbers f lt before here is was =
    cut_more i old new page before here
    ∙ ap₂ (λ (ps : List (List ℕ)) (p : List ℕ). ps ++ p ∷ []) was is
    ∙ sym (map_more f numbers i 0 lt)

-- a page put in its place
module _ (i k : ℕ) (old page : List ℕ) (long : length page ≡ PAGE) (size : k ≡ PAGE) (fits : PAGE * i + PAGE ≤ length old) where
  pub put_before : take (PAGE * i) (put_mid (PAGE * i) k old page) ≡ take (PAGE * i) old
  put_before = take-put_mid_below (PAGE * i) k old page (PAGE * i) (omega arith) (omega arith)

  pub put_here : page_at (put_mid (PAGE * i) k old page) i ≡ page
  put_here =
      sym (drop-take (PAGE * i) PAGE (put_mid (PAGE * i) k old page))
      ∙ ap (λ (l : List ℕ). drop (PAGE * i) l) (take-put_mid (PAGE * i) k old page (PAGE * i + PAGE) (omega arith) (omega arith))
      ∙ drop_at (take (PAGE * i) old) page (PAGE * i) (length-take-le (PAGE * i) old (omega arith))
