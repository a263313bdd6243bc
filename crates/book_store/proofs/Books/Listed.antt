-- Rows and the numbers of their pages, place by place.
use Rattle.std.proofs.Common.{◌≡◌, ℕ, zero, suc, ◌+◌, List, [], ◌∷◌, ◌++◌, Option, None, get_or, length, refl, ◌∙◌, ap, arith}
use Rattle.std.proofs.Math.ListN.{set}
use Rattle.book_store.specs.AtRest.{all_pages, row_mark, row_marks, row_pages}
use Rattle.book_store.specs.Marks.{RowMark}
use Rattle.book_store.specs.Rows.{pages_by}
use Rattle.book_store.specs.Shown.{BookRow}

abbrev pub Book : Type 0
Book = List (Option BookRow)

pub mark_at : (book : Book) (numbers : List (List ℕ)) (r : ℕ)
    → get_or (row_marks book numbers) r None ≡ row_mark (get_or book r None) (get_or numbers r [])
mark_at [] numbers r = refl
mark_at (row ∷ book) [] zero = refl
mark_at (row ∷ book) [] (suc r) = mark_at book [] r
mark_at (row ∷ book) (own ∷ numbers) zero = refl
mark_at (row ∷ book) (own ∷ numbers) (suc r) = mark_at book numbers r

pub marks_long : (book : Book) (numbers : List (List ℕ)) → length (row_marks book numbers) ≡ length book
marks_long [] numbers = refl
marks_long (row ∷ book) [] = ap suc (marks_long book [])
marks_long (row ∷ book) (own ∷ numbers) = ap suc (marks_long book numbers)

pub marks_set : (book : Book) (numbers : List (List ℕ)) (r : ℕ) (row : Option BookRow) (own : List ℕ)
    → length numbers ≡ length book
    → row_marks (set book r row) (set numbers r own) ≡ set (row_marks book numbers) r (row_mark row own)
marks_set [] [] r row own each = refl
marks_set [] (n ∷ numbers) r row own each = absurd (omega arith)
marks_set (b ∷ book) [] r row own each = absurd (omega arith)
marks_set (b ∷ book) (n ∷ numbers) zero row own each = refl
marks_set (b ∷ book) (n ∷ numbers) (suc r) row own each =
    ap (λ (l : List (Option RowMark)). row_mark b n ∷ l) (marks_set book numbers r row own (omega arith))

-- all pages, row by row
pub pages_listed : (book : Book) (r : ℕ) (held : ℕ → List (List ℕ))
    → ((s : ℕ) → held (r + s) ≡ row_pages (get_or book s None))
    → pages_by (length book) r held ≡ all_pages book
pages_listed [] r held each = refl
pages_listed (row ∷ book) r held each =
    ap (λ (l : List (List ℕ)). l ++ pages_by (length book) (suc r) held)
    (ap held (let e : r ≡ r + 0 = omega arith in e) ∙ each 0)
    ∙ ap (λ (l : List (List ℕ)). row_pages row ++ l)
    (pages_listed book (suc r) held
    (λ s. ap held (let e : suc r + s ≡ r + suc s = omega arith in e) ∙ each (suc s)))
