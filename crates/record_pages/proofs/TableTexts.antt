-- A record's table names the numbers that it was laid out with.
use Rattle.std.proofs.Common.{◌≡◌, ℕ, ◌<◌, ◌^◌, List, [], ◌∷◌, ◌++◌, length, take, drop, replicate, refl, sym, ◌∙◌, ap, append_assoc}
use Rattle.std.specs.Prelude.{All}
use Rattle.std.specs.Int.{w16, w32, to_be_bytes, from_be_bytes}
use Rattle.std.proofs.lemmas.List.Elements.{All-head, All-tail}
use Rattle.std.proofs.lemmas.Nat.{from_be_bytes-to_be_bytes_2, from_be_bytes-to_be_bytes_4}
use Rattle.std.proofs.Math.Seq.{drop-append_seam, take-append_seam}
use Rattle.record_pages.specs.Pages.{page_count}
use Rattle.record_pages.specs.Tables.{length_in, numbers_in, printed, record_names, table_body}

two : (n : ℕ) → length (to_be_bytes w16 n) ≡ 2
two n = refl

four : (n : ℕ) → length (to_be_bytes w32 n) ≡ 4
four n = refl

numbers_back : (numbers : List ℕ) (rest : List ℕ) → All (λ n. n < 2 ^ 16) numbers
    → numbers_in (length numbers) (printed numbers ++ rest) ≡ numbers
numbers_back [] rest all = refl
numbers_back (n ∷ numbers) rest all =
    let joined : (to_be_bytes w16 n ++ printed numbers) ++ rest ≡ to_be_bytes w16 n ++
    (printed numbers ++ rest) = append_assoc (to_be_bytes w16 n) (printed numbers) rest in
    let head : from_be_bytes w16 (take 2 ((to_be_bytes w16 n ++ printed numbers) ++ rest)) ≡ n =
    ap (λ (l : List ℕ). from_be_bytes w16 (take 2 l)) joined
    ∙ ap (λ (l : List ℕ). from_be_bytes w16 l) (take-append_seam (to_be_bytes w16 n)
    (printed numbers ++ rest))
    ∙ from_be_bytes-to_be_bytes_2 n (All-head (λ k. k < 2 ^ 16) n numbers all) in
    let tail : numbers_in (length numbers) (drop 2 ((to_be_bytes w16 n ++ printed numbers) ++ rest))
    ≡ numbers =
    ap (λ (l : List ℕ). numbers_in (length numbers) (drop 2 l)) joined
    ∙ ap (λ (l : List ℕ). numbers_in (length numbers) l)
    (drop-append_seam (to_be_bytes w16 n) (printed numbers ++ rest))
    ∙ numbers_back numbers rest (All-tail (λ k. k < 2 ^ 16) n numbers all) in
    ap (λ k. k ∷ numbers_in (length numbers) (drop 2 ((to_be_bytes w16 n ++ printed numbers) ++
    rest))) head ∙ ap (λ (l : List ℕ). n ∷ l) tail

pub length_back : (turn len : ℕ) (numbers : List ℕ) (n : ℕ) → len < 2 ^ 32
    → length_in (table_body turn len numbers n) ≡ len
length_back turn len numbers n small =
    ap (λ (l : List ℕ). from_be_bytes w32 l) (take-append_seam (to_be_bytes w32 len)
    (printed numbers ++ replicate n 0))
    ∙ from_be_bytes-to_be_bytes_4 len small

pub names_back : (turn len : ℕ) (numbers : List ℕ) (n : ℕ) → len < 2 ^ 32
    → length numbers ≡ page_count len → All (λ k. k < 2 ^ 16) numbers
    → record_names (table_body turn len numbers n) ≡ numbers
unfolding record_names
names_back turn len numbers n small count all =
    ap (λ k. numbers_in (page_count k) (drop 4 (drop 1 (table_body turn len numbers n))))
    (length_back turn len numbers n small)
    ∙ ap (λ (l : List ℕ). numbers_in (page_count len) l)
    (drop-append_seam (to_be_bytes w32 len) (printed numbers ++ replicate n 0))
    ∙ ap (λ k. numbers_in k (printed numbers ++ replicate n 0)) (sym count)
    ∙ numbers_back numbers (replicate n 0) all
