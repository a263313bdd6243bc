-- A row more in a table that is laid out.
use Rattle.std.proofs.Common.{◌≡◌, ◌≢◌, ⊎_elim, ℕ, ◌<◌, List, Option, None, Some, get_or, length, refl, sym, ◌∙◌, ap, subst, arith}
use Rattle.std.proofs.Math.ListN.{set}
use Rattle.std.proofs.lemmas.Bool.{cases_eq}
use Rattle.std.proofs.lemmas.List.{get_or-set_other, get_or-set_same, length-set}
use Rattle.book_store.proofs.Bodies.{row_put}
use Rattle.book_store.proofs.FaultlessBooks.{all_sized}
use Rattle.book_store.specs.Marks.{AreMarks, IsRowMark, RowMark, book_body, mark_text}
use Rattle.book_store.specs.Rows.{with_row_in}
use Rattle.book_store.specs.declared.layout.TheConstants.{BOOK_ROWS}

-- another element at a place
pub at_place : {A : Type 0} (xs : List A) (i j : ℕ) (x d : A) → i < length xs → j ≡ i → get_or (set xs i x) j d ≡ x
at_place xs i j x d inside same = ap (λ k. get_or (set xs i x) k d) same ∙ get_or-set_same xs i x d inside

pub elsewhere : {A : Type 0} (xs : List A) (i j : ℕ) (x d : A) → j ≢ i → get_or (set xs i x) j d ≡ get_or xs j d
elsewhere xs i j x d other = get_or-set_other xs i j x d other

-- what holds of all other elements, and of this one, holds of all
pub by_place : {A : Type 0} (P : ℕ → A → Type 0) (xs : List A) (i : ℕ) (x d : A) → i < length xs
    → P i x → ((j : ℕ) → j ≢ i → P j (get_or xs j d)) → (j : ℕ) → P j (get_or (set xs i x) j d)
by_place P xs i x d inside here there j = ⊎_elim
    (λ same. subst (P j) (sym (at_place xs i j x d inside same)) (subst (λ k. P k x) (sym same) here))
    (λ other. subst (P j) (sym (elsewhere xs i j x d other)) (there j other))
    (cases_eq j i)

module _ (rows : ℕ) (marks : List (Option RowMark)) (are : AreMarks rows marks) (row : ℕ) (inside : row < BOOK_ROWS) where
  fits : row < length marks
  fits = omega (arith, inside, are.all)

  module _ (new : Option RowMark) (lawful : (mark : RowMark) → new ≡ Some mark → IsRowMark mark × (row < rows))
      (differs : (r : ℕ) (mark other : RowMark) → r ≢ row → new ≡ Some mark → get_or marks r None ≡ Some other → other.name ≢ mark.name) where
    with_lawful : (r : ℕ) → (mark : RowMark) → get_or (set marks row new) r None ≡ Some mark → IsRowMark mark
    with_lawful = by_place (λ r o. (mark : RowMark) → o ≡ Some mark → IsRowMark mark) marks row new None fits
        (λ mark is. (lawful mark is).0) (λ r other. are.lawful r)

    with_inside : (r : ℕ) → (mark : RowMark) → get_or (set marks row new) r None ≡ Some mark → r < rows
    with_inside = by_place (λ r o. (mark : RowMark) → o ≡ Some mark → r < rows) marks row new None fits
        (λ mark is. (lawful mark is).1) (λ r other. are.inside r)

    with_differ : (q r : ℕ) (one other : RowMark) → get_or (set marks row new) q None ≡ Some one
        → get_or (set marks row new) r None ≡ Some other → q ≢ r → one.name ≢ other.name
    with_differ q r one other is_one is_other apart =
        by_place (λ p o. (mark : RowMark) → o ≡ Some mark → p ≢ r → mark.name ≢ other.name) marks row new None fits
        (λ mark is here. by_place (λ p o. (last : RowMark) → o ≡ Some last → row ≢ p → mark.name ≢ last.name) marks row new None fits
        (λ last is_last off. absurd (off refl))
        (λ p away last is_last off e. differs p mark last away is is_last (sym e)) r other is_other here)
        (λ p away mark is here. by_place (λ t o. (last : RowMark) → o ≡ Some last → p ≢ t → mark.name ≢ last.name) marks row new None fits
        (λ last is_last off e. differs p last mark away is_last is e)
        (λ t off last is_last other. are.differ p t mark last is is_last other) r other is_other here)
        q one is_one apart

    pub marks_with : AreMarks rows (set marks row new)
    marks_with = record {
      all = length-set marks row new ∙ are.all;
      lawful = with_lawful;
      inside = with_inside;
      differ = with_differ;
    }

  pub body_with : (turn : ℕ) (new : Option RowMark)
      → with_row_in (book_body turn marks) row (mark_text new) ≡ book_body turn (set marks row new)
  body_with turn new = row_put turn marks row (all_sized rows turn marks are) fits new
