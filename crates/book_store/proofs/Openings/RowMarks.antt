-- The marks of a row's pages, of all rows', and of the pages that rows in memory have.
use Rattle.std.proofs.Common.{◌≡◌, ℕ, suc, ◌+◌, ◌-◌, ◌≤◌, ◌<◌, Bool, true, false, List, refl, sym, ◌∙◌, ap, arith, zero, ◌*◌, [], ◌∷◌, None, get_or, map, replicate, subst}
use Rattle.std.specs.Prelude.{◌||◌, nat_eq}
use Rattle.std.proofs.lemmas.List.Folds.{list_any-append}
use Rattle.record_pages.specs.Plans.{is_among}
use Rattle.book_store.specs.Rows.{names_by, shifted, book_names, row_in, row_names}
use Rattle.book_store.specs.declared.layout.TheConstants.{BOOK_ROWS, ROW_PAGES}
use Rattle.book_store.proofs.Books.Laying.{row_named}
use Rattle.book_store.proofs.Books.Seen.{seen_numbers}
use Rattle.book_store.proofs.Books.Zeros.{table_body}
use Rattle.book_store.proofs.Names.{rows_same}
use Rattle.book_store.proofs.Openings.PageMarks.{AreMarked, marks_of}
use Rattle.book_store.specs.AtRest.{IsBookMarked, laid_book, row_marks}
use Rattle.book_store.specs.Held.{held_names, numbers_seen, row_seen}
use Rattle.book_store.specs.Locating.{store_with}
use Rattle.book_store.specs.Marks.{book_body}
use Rattle.book_store.specs.Store.{numbers_of}
use Rattle.book_store.specs.declared.desk.Desk.{Desk}
use Rattle.book_store.specs.declared.held.HeldRow.{HeldRow}

either_three : (a b x : Bool) → (a || (b || x)) ≡ ((a || b) || x)
either_three true b x = refl
either_three false b x = refl

-- one row more is marked
pub row_more : (r n : ℕ) (f : ℕ → List ℕ) (was now : Bool) → r < BOOK_ROWS
    → now ≡ (was || is_among (shifted r (f r)) n)
    → (was || is_among (names_by (BOOK_ROWS - r) r f) n) ≡ (now || is_among (names_by (BOOK_ROWS - (r + 1)) (r + 1) f) n)
row_more r n f was now lt is =
    ap (λ k. was || is_among (names_by k r f) n) (let e : BOOK_ROWS - r ≡ suc (BOOK_ROWS - (r + 1)) = omega (arith, lt) in e)
    ∙ ap (λ b. was || b) (list_any-append (λ m. nat_eq m n) (shifted r (f r)) (names_by (BOOK_ROWS - (r + 1)) (suc r) f))
    ∙ either_three was (is_among (shifted r (f r)) n) (is_among (names_by (BOOK_ROWS - (r + 1)) (suc r) f) n)
    ∙ ap (λ b. b || is_among (names_by (BOOK_ROWS - (r + 1)) (suc r) f) n) (sym is)
    ∙ ap (λ k. now || is_among (names_by (BOOK_ROWS - (r + 1)) k f) n) (let e : suc r ≡ r + 1 = omega arith in e)

-- and then no row is left
pub none_more : (now : Bool) (n : ℕ) (f : ℕ → List ℕ) (r : ℕ) → BOOK_ROWS ≤ r
    → (now || is_among (names_by (BOOK_ROWS - r) r f) n) ≡ now
none_more now n f r past = ap (λ k. now || is_among (names_by k r f) n) (let e : BOOK_ROWS - r ≡ 0 = omega (arith, past) in e) ∙ by now
  where
    by : (b : Bool) → (b || false) ≡ b
    by true = refl
    by false = refl

-- ---- rows in memory

-- an absent row has none
pub numbers_at_row : (rows : List HeldRow) (r : ℕ) → get_or (map numbers_seen rows) r []
    ≡ numbers_of (get_or (map row_seen rows) r None) (get_or (map numbers_seen rows) r [])
numbers_at_row [] r = refl
numbers_at_row (row ∷ rows) zero = seen_numbers row
numbers_at_row (row ∷ rows) (suc r) = numbers_at_row rows r

module _ (desk : Desk) (rows : List HeldRow)
    (marked : IsBookMarked desk.rows (store_with desk rows).mark (store_with desk rows).held) where
  abbrev numbers : ℕ → List ℕ
  numbers r = get_or (map numbers_seen rows) r []

  abbrev body : List ℕ
  body = book_body desk.turn (row_marks (map row_seen rows) (map numbers_seen rows))

  -- they are those that the table names
  named : held_names rows ≡ book_names (laid_book (store_with desk rows).mark (store_with desk rows).held).table.body
  unfolding book_names held_names
  named =
      rows_same BOOK_ROWS 0 numbers (λ r. row_names (row_in body r))
      (λ s le lt. numbers_at_row rows s
      ∙ sym (row_named desk.rows desk.turn (map row_seen rows) (map numbers_seen rows) marked.marks s (omega (arith, lt))))
      ∙ ap book_names (sym (table_body desk.rows (store_with desk rows).mark (store_with desk rows).held marked))

  pub held_marks : (old new : List Bool) → old ≡ replicate (ROW_PAGES * BOOK_ROWS) false
      → ((n : ℕ) → get_or new n false ≡ (get_or old n false || is_among (held_names rows) n))
      → AreMarked new (book_names (laid_book (store_with desk rows).mark (store_with desk rows).held).table.body)
  held_marks old new none marks = subst (AreMarked new) named (marks_of old new (ROW_PAGES * BOOK_ROWS) (held_names rows) none marks)
