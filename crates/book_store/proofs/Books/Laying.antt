-- A book that is laid out: its table, and the pages that it names.
use Rattle.std.proofs.Common.{◌≡◌, ◌≢◌, ⊎_elim, ℕ, zero, suc, ◌+◌, ◌*◌, ◌^◌, ◌≤◌, ◌<◌, List, [], ◌∷◌, ◌++◌, Option, None, Some, get_or, length, refl, sym, ◌∙◌, ap, subst, arith}
use Rattle.std.specs.Prelude.{All}
use Rattle.std.proofs.lemmas.Bool.{cases_eq, cases_lt}
use Rattle.std.proofs.lemmas.List.Elements.{All-cons, All-drop, All-head, All-nil, All-tail, All-take, All-weaker}
use Rattle.std.proofs.Math.Seq.{drop-append_seam, take-append_seam}
use Rattle.record_pages.proofs.Filled.{count_fits}
use Rattle.record_pages.proofs.LawfulEntries.{IsEntry, entries_lawful}
use Rattle.pages.specs.Layouts.{IsPage}
use Rattle.book_store.proofs.Absent.{blank_names}
use Rattle.book_store.proofs.Bodies.{row_is}
use Rattle.book_store.proofs.Books.Listed.{Book, mark_at}
use Rattle.book_store.proofs.Faultless.{name_long}
use Rattle.book_store.proofs.FaultlessBooks.{all_sized}
use Rattle.book_store.proofs.Names.{all_rows, names_back}
use Rattle.book_store.specs.AtRest.{row_mark, row_marks}
use Rattle.book_store.specs.Layout.{book_layout}
use Rattle.book_store.specs.Marks.{AreMarks, book_body, mark_text}
use Rattle.book_store.specs.Rows.{book_names, names_by, row_in, row_names, shifted}
use Rattle.book_store.specs.Shown.{BookRow}
use Rattle.book_store.specs.Store.{numbers_of}
use Rattle.book_store.specs.declared.layout.TheConstants.{BOOK_ROWS, ROW_MOST, ROW_PAGES}

-- ---- the numbers of each row, by the table

module _ (rows turn : ℕ) (book : Book) (numbers : List (List ℕ))
    (are : AreMarks rows (row_marks book numbers)) where
  abbrev pub body : List ℕ
  body = book_body turn (row_marks book numbers)

  abbrev pub own : ℕ → List ℕ
  own r = numbers_of (get_or book r None) (get_or numbers r [])

  pub row_laid : (r : ℕ) → r < BOOK_ROWS
      → row_in body r ≡ mark_text (row_mark (get_or book r None) (get_or numbers r []))
  row_laid r lt = row_is turn (row_marks book numbers) r (all_sized rows turn (row_marks book numbers) are)
      (omega (arith, lt, are.all)) ∙ ap mark_text (mark_at book numbers r)

  pub marked : (r : ℕ) (row : BookRow) → get_or book r None ≡ Some row
      → get_or (row_marks book numbers) r None
      ≡ Some (record { name = row.name; len = length row.text; numbers = get_or numbers r [] })
  marked r row is = mark_at book numbers r ∙ ap (λ o. row_mark o (get_or numbers r [])) is

  names_of : (r : ℕ) (row : Option BookRow) → get_or book r None ≡ row
      → row_names (mark_text (row_mark row (get_or numbers r []))) ≡ numbers_of row (get_or numbers r [])
  names_of r None is = blank_names
  names_of r (Some row) is =
      let mark = are.lawful r _ (marked r row is) in
      names_back row.name (length row.text) (get_or numbers r []) (name_long row.name mark.named).1
      (omega (arith, count_fits (length row.text) ROW_MOST mark.few)) mark.each
      (All-weaker (IsEntry 0 ROW_PAGES) (λ n. n < 2 ^ 16) (λ n entry. omega (arith, entry.1)) (get_or numbers r [])
      (entries_lawful 0 ROW_PAGES (get_or numbers r []) mark.entries).within)

  pub row_named : (r : ℕ) → r < BOOK_ROWS → row_names (row_in body r) ≡ own r
  row_named r lt = ap row_names (row_laid r lt) ∙ names_of r (get_or book r None) refl

  own_of : (r : ℕ) (row : Option BookRow) → get_or book r None ≡ row
      → All (λ n. n < ROW_PAGES) (numbers_of row (get_or numbers r []))
  own_of r None is = All-nil (λ n. n < ROW_PAGES)
  own_of r (Some row) is = All-weaker (IsEntry 0 ROW_PAGES) (λ n. n < ROW_PAGES) (λ n entry. entry.1) (get_or numbers r [])
      (entries_lawful 0 ROW_PAGES (get_or numbers r []) (are.lawful r _ (marked r row is)).entries).within

  pub own_small : (r : ℕ) → All (λ n. n < ROW_PAGES) (own r)
  own_small r = own_of r (get_or book r None) refl

  -- a row that may not be present has no pages
  outside_of : (r : ℕ) (row : Option BookRow) → get_or book r None ≡ row → rows ≤ r
      → numbers_of row (get_or numbers r []) ≡ []
  outside_of r None is past = refl
  outside_of r (Some row) is past = absurd (omega (arith, are.inside r _ (marked r row is), past))

  pub own_outside : (r : ℕ) → rows ≤ r → own r ≡ []
  own_outside r past = outside_of r (get_or book r None) refl past

  pages_of : (s : ℕ) → s < rows → (ns : List ℕ) → All (λ n. n < ROW_PAGES) ns → All (IsPage (book_layout rows)) (shifted s ns)
  pages_of s here [] small = All-nil (IsPage (book_layout rows))
  pages_of s here (n ∷ ns) small =
      let below : n < ROW_PAGES = All-head (λ n. n < ROW_PAGES) n ns small in
      All-cons (IsPage (book_layout rows)) (ROW_PAGES * s + n) (shifted s ns) (omega arith, omega (arith, below, here))
      (pages_of s here ns (All-tail (λ n. n < ROW_PAGES) n ns small))

  -- all of them are pages of the book
  pub are_pages : All (IsPage (book_layout rows)) (book_names body)
  unfolding book_names
  are_pages = all_rows (IsPage (book_layout rows)) BOOK_ROWS 0 (λ s. row_names (row_in body s))
      (λ s le inside. subst (λ ns. All (IsPage (book_layout rows)) (shifted s ns))
      (sym (row_named s (omega (arith, inside))))
      (⊎_elim
      (λ here. pages_of s here (own s) (own_small s))
      (λ past. subst (λ ns. All (IsPage (book_layout rows)) (shifted s ns)) (sym (own_outside s past))
      (All-nil (IsPage (book_layout rows))))
      (cases_lt s rows)))

  abbrev IsOther : ℕ → ℕ → Type 0
  IsOther m k = IsPage (book_layout rows) k × (k ≢ m)

  others_in : (r s p : ℕ) → s < rows → p < ROW_PAGES → (ns : List ℕ) → All (λ n. n < ROW_PAGES) ns
      → (s ≡ r → All (λ n. n ≢ p) ns) → All (IsOther (ROW_PAGES * r + p)) (shifted s ns)
  others_in r s p here lt [] small none = All-nil (IsOther (ROW_PAGES * r + p))
  others_in r s p here lt (n ∷ ns) small none =
      let below : n < ROW_PAGES = All-head (λ n. n < ROW_PAGES) n ns small in
      All-cons (IsOther (ROW_PAGES * r + p)) (ROW_PAGES * s + n) (shifted s ns) (
        (omega arith, omega (arith, below, here)),
        λ e. ⊎_elim
            (λ same. All-head (λ n. n ≢ p) n ns (none same) (omega (arith, e, same)))
            (λ other. omega (arith, e, below, lt, other))
            (cases_eq s r),
      )
      (others_in r s p here lt ns (All-tail (λ n. n < ROW_PAGES) n ns small)
      (λ same. All-tail (λ n. n ≢ p) n ns (none same)))

  -- a page that its row doesn't have is named by no row
  pub beside : (r p : ℕ) → p < ROW_PAGES → All (λ n. n ≢ p) (own r)
      → All (IsOther (ROW_PAGES * r + p)) (book_names body)
  unfolding book_names
  beside r p lt none = all_rows (IsOther (ROW_PAGES * r + p)) BOOK_ROWS 0 (λ s. row_names (row_in body s))
      (λ s le inside. subst (λ ns. All (IsOther (ROW_PAGES * r + p)) (shifted s ns))
      (sym (row_named s (omega (arith, inside))))
      (⊎_elim
      (λ here. others_in r s p here lt (own s) (own_small s) (λ same. subst (λ t. All (λ n. n ≢ p) (own t)) (sym same) none))
      (λ past. subst (λ ns. All (IsOther (ROW_PAGES * r + p)) (shifted s ns)) (sym (own_outside s past))
      (All-nil (IsOther (ROW_PAGES * r + p))))
      (cases_lt s rows)))

first : (P : ℕ → Type 0) (xs ys : List ℕ) → All P (xs ++ ys) → All P xs
first P xs ys all = subst (All P) (take-append_seam xs ys) (All-take P (length xs) (xs ++ ys) all)

others : (P : ℕ → Type 0) (xs ys : List ℕ) → All P (xs ++ ys) → All P ys
others P xs ys all = subst (All P) (drop-append_seam xs ys) (All-drop P (length xs) (xs ++ ys) all)

-- what holds of all pages that the table names holds of those of each row
pub each_row : (P : ℕ → Type 0) (k r : ℕ) (f : ℕ → List ℕ) → All P (names_by k r f)
    → (s : ℕ) → r ≤ s → s < r + k → All P (shifted s (f s))
each_row P zero r f all s le lt = absurd (omega arith)
each_row P (suc k) r f all s le lt = ⊎_elim
    (λ same. subst (λ t. All P (shifted t (f t))) (sym same) (first P (shifted r (f r)) (names_by k (suc r) f) all))
    (λ other. each_row P k (suc r) f (others P (shifted r (f r)) (names_by k (suc r) f) all) s (omega (arith, le, other)) (omega arith))
    (cases_eq s r)

pub unshifted : (row p : ℕ) (ns : List ℕ) → All (λ n. n ≢ ROW_PAGES * row + p) (shifted row ns) → All (λ n. n ≢ p) ns
unshifted row p [] none = All-nil (λ n. n ≢ p)
unshifted row p (n ∷ ns) none =
    All-cons (λ n. n ≢ p) n ns
    (λ e. All-head (λ n. n ≢ ROW_PAGES * row + p) (ROW_PAGES * row + n) (shifted row ns) none (omega (arith, e)))
    (unshifted row p ns (All-tail (λ n. n ≢ ROW_PAGES * row + p) (ROW_PAGES * row + n) (shifted row ns) none))

pub none_by_row : (p k r : ℕ) (f : ℕ → List ℕ) (s : ℕ) → r ≤ s → s < r + k
    → All (λ n. n ≢ ROW_PAGES * s + p) (names_by k r f) → All (λ n. n ≢ p) (f s)
none_by_row p k r f s le lt none = unshifted s p (f s) (each_row (λ n. n ≢ ROW_PAGES * s + p) k r f none s le lt)
