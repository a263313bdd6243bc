-- A record in pages, and what a plan's numbers name.
use Rattle.std.proofs.Common.{◌≡◌, ⊎_elim, ℕ, zero, suc, ◌+◌, ◌-◌, ◌*◌, ◌≤◌, ◌<◌, Bool, true, false, List, [], ◌∷◌, ◌++◌, length, take, drop, map, replicate, refl, ◌∙◌, ap, arith, length-drop, append_assoc}
use Rattle.std.specs.Prelude.{slice_index, if◌then◌else◌, ◌==◌, ◌&&◌}
use Rattle.std.proofs.lemmas.Bool.{cases_lt}
use Rattle.std.proofs.lemmas.Bool.Decides.{nat_tests}
use Rattle.std.proofs.lemmas.List.{length-take-le, take-append-drop, take_all}
use Rattle.std.proofs.Math.Seq.{take-append-add, take-append_seam}
use Rattle.std.specs.Str.{bytes_eq}
use Rattle.dr_base.specs.declared.limits.TheConstants.{PAGE}
use Rattle.record_pages.specs.Pages.{filled_page, joined, pages_of}
use Rattle.record_pages.specs.Plans.{changed, numbered}

same_is : (xs ys : List ℕ) → bytes_eq xs ys ≡ true → xs ≡ ys
same_is [] [] is = refl
same_is [] (y ∷ ys) is = absurd (let e : false ≡ true = is in cc)
same_is (x ∷ xs) [] is = absurd (let e : false ≡ true = is in cc)
same_is (x ∷ xs) (y ∷ ys) is = by (x == y) (bytes_eq xs ys) refl refl is (λ tail. same_is xs ys tail)
  where
    by : (a b : Bool) → (x == y) ≡ a → bytes_eq xs ys ≡ b → (a && b) ≡ true
        → (bytes_eq xs ys ≡ true → xs ≡ ys) → x ∷ xs ≡ y ∷ ys
    by true true head tail both more = ap (λ n. n ∷ xs) (let e : x ≡ y = grind (arith, nat_tests) in
        e) ∙ ap (λ (l : List ℕ). y ∷ l) (more tail)
    by true false head tail both more = absurd (let e : false ≡ true = both in cc)
    by false b head tail both more = absurd (let e : false ≡ true = both in cc)

-- Where the kept numbers name the old pages and the fresh ones the changed pages, the plan's
-- numbers name the new pages.
pub planned : (f : ℕ → List ℕ) (old : List (List ℕ)) (numbers : List ℕ) (new : List (List ℕ))
    (fresh : List ℕ) → map f numbers ≡ old → map f fresh ≡ changed old new
    → map f (numbered old numbers new fresh) ≡ new
planned f old numbers [] fresh kept written = refl
planned f [] numbers (page ∷ new) [] kept written = absurd
    (let e : [] ≡ page ∷ changed [] new = written in cc)
planned f [] numbers (page ∷ new) (n ∷ fresh) kept written =
    let head : f n ≡ page = let e : f n ∷ map f fresh ≡ page ∷ changed [] new = written in cc in
    let tail : map f fresh ≡ changed [] new = let e : f n ∷ map f fresh ≡ page ∷ changed [] new
    = written in cc in
    ap (λ (p : List ℕ). p ∷ map f (numbered [] numbers new fresh)) head
    ∙ ap (λ (ps : List (List ℕ)). page ∷ ps) (planned f [] numbers new fresh kept tail)
planned f (was ∷ old) [] (page ∷ new) fresh kept written = absurd
    (let e : [] ≡ was ∷ old = kept in cc)
planned f (was ∷ old) (m ∷ numbers) (page ∷ new) fresh kept written =
    let head_kept : f m ≡ was = let e : f m ∷ map f numbers ≡ was ∷ old = kept in cc in
    let tail_kept : map f numbers ≡ old = let e : f m ∷ map f numbers ≡ was ∷ old = kept in cc in
    by (bytes_eq was page) refl head_kept fresh written (λ more is_more. planned f old numbers new
    more tail_kept is_more)
  where
    by : (same : Bool) → bytes_eq was page ≡ same → f m ≡ was → (fresh : List ℕ)
        → map f fresh ≡ (if same then changed old new else page ∷ changed old new)
        → ((more : List ℕ) → map f more ≡ changed old new
        → map f (numbered old numbers new more) ≡ new)
        → map f (if same then m ∷ numbered old numbers new fresh else slice_index fresh 0 ∷ numbered
        old numbers new (drop 1 fresh)) ≡ page ∷ new
    by true is head_kept fresh written rest =
        ap (λ (p : List ℕ). p ∷ map f (numbered old numbers new fresh))
        (head_kept ∙ same_is was page is) ∙ ap (λ (ps : List (List ℕ)). page ∷ ps)
        (rest fresh written)
    by false isnt head_kept [] written rest = absurd (let e : [] ≡ page ∷ changed old new = written
        in cc)
    by false isnt head_kept (n ∷ fresh) written rest =
        let head : f n ≡ page = let e : f n ∷ map f fresh ≡ page ∷ changed old new = written in cc
        in
        let tail : map f fresh ≡ changed old new = let e : f n ∷ map f fresh ≡ page ∷ changed old
        new = written in cc in
        ap (λ (p : List ℕ). p ∷ map f (numbered old numbers new fresh)) head
        ∙ ap (λ (ps : List (List ℕ)). page ∷ ps) (rest fresh tail)

-- a record is read back from its pages
pub read_back : (n : ℕ) (text : List ℕ) → length text ≤ PAGE * n
    → take (length text) (joined (pages_of n text)) ≡ text
read_back zero [] fits = refl
read_back zero (x ∷ text) fits = absurd (omega arith)
read_back (suc n) text fits =
    let more : take (length (drop PAGE text)) (joined (pages_of n (drop PAGE text))) ≡ drop PAGE
    text = read_back n (drop PAGE text) (omega (arith, length-drop PAGE text)) in
    ⊎_elim short (long more) (cases_lt (length text) (PAGE + 1))
  where
    short : length text < (PAGE + 1) → take (length text)
        (filled_page (take PAGE text) ++ joined (pages_of n (drop PAGE text))) ≡ text
    short lt =
        let all : take PAGE text ≡ text = take_all PAGE text (omega arith) in
        ap (λ (t : List ℕ). take (length text) ((t ++ replicate (PAGE - length t) 0) ++ joined
        (pages_of n (drop PAGE text)))) all
        ∙ ap (λ (t : List ℕ). take (length text) t) (append_assoc text
        (replicate (PAGE - length text) 0) (joined (pages_of n (drop PAGE text))))
        ∙ take-append_seam text (replicate (PAGE - length text) 0 ++ joined
        (pages_of n (drop PAGE text)))

    long : take (length (drop PAGE text)) (joined (pages_of n (drop PAGE text))) ≡ drop PAGE text
        → (PAGE + 1) ≤ length text → take (length text) (filled_page (take PAGE text) ++ joined
        (pages_of n (drop PAGE text))) ≡ text
    long more le =
        let size : length (take PAGE text) ≡ PAGE = length-take-le PAGE text (omega arith) in
        let none : PAGE - length (take PAGE text) ≡ 0 = omega (arith, size) in
        let whole : length text ≡ length (take PAGE text) + length (drop PAGE text) = omega
        (arith, size, length-drop PAGE text) in
        ap (λ k. take (length text) ((take PAGE text ++ replicate k 0) ++ joined
        (pages_of n (drop PAGE text)))) none
        ∙ ap (λ (t : List ℕ). take (length text) t) (append_assoc (take PAGE text) []
        (joined (pages_of n (drop PAGE text))))
        ∙ ap (λ k. take k (take PAGE text ++ joined (pages_of n (drop PAGE text)))) whole
        ∙ take-append-add (take PAGE text) (joined (pages_of n (drop PAGE text)))
        (length (drop PAGE text))
        ∙ ap (λ (t : List ℕ). take PAGE text ++ t) more
        ∙ take-append-drop PAGE text
