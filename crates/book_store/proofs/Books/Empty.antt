-- A store in which no row is present.
use Rattle.std.proofs.Common.{◌≡◌, ◌≢◌, ℕ, zero, suc, ◌-◌, ◌≤◌, Bool, true, false, List, [], ◌∷◌, Option, None, Some, get_or, length, map, replicate, refl, sym, ◌∙◌, ap, subst, arith}
use Rattle.std.specs.Prelude.{All}
use Rattle.std.proofs.lemmas.List.{length-replicate}
use Rattle.std.proofs.lemmas.List.Elements.{All-head, All-nil, All-tail}
use Rattle.record_pages.specs.Tables.{entry_fault}
use Rattle.book_store.proofs.Books.Listed.{Book, mark_at, marks_long}
use Rattle.book_store.proofs.Books.Over.{none_absent}
use Rattle.book_store.proofs.Books.RetireCall.{no_drops}
use Rattle.book_store.proofs.Books.RowCall.{store_of}
use Rattle.book_store.proofs.Books.Seen.{none_dropped, seen_numbers}
use Rattle.book_store.proofs.Books.Zeros.{none_laid}
use Rattle.book_store.specs.AtRest.{row_mark, row_marks}
use Rattle.book_store.specs.Held.{drops_seen, numbers_seen, row_seen, seen_as}
use Rattle.book_store.specs.Kept.{text_of}
use Rattle.book_store.specs.Marks.{AreMarks, RowMark}
use Rattle.book_store.specs.Shown.{BookRow, absent}
use Rattle.book_store.specs.Store.{IsLawfulStore, body_of, empty_store, numbers_at, numbers_of}
use Rattle.book_store.specs.declared.desk.Desk.{Desk}
use Rattle.book_store.specs.declared.held.HeldRow.{HeldRow}
use Rattle.book_store.specs.declared.layout.TheConstants.{BOOK_ROWS, BOOK_TABLE, ROW_PAGES}

-- ---- by its rows

abbrev IsAbsent : HeldRow → Type 0
IsAbsent row = row.name ≡ None

absent_seen : (row : HeldRow) → IsAbsent row → row_seen row ≡ None
absent_seen row is = ap (λ name. seen_as name (text_of row.kept)) is

absent_held : (rows : List HeldRow) → All IsAbsent rows → map row_seen rows ≡ absent (length rows)
absent_held [] all = refl
absent_held (row ∷ rows) all =
    ap (λ (o : Option BookRow). o ∷ map row_seen rows) (absent_seen row (All-head IsAbsent row rows all))
    ∙ ap (λ (l : Book). None ∷ l) (absent_held rows (All-tail IsAbsent row rows all))

absent_numbers : (rows : List HeldRow) → All IsAbsent rows → map numbers_seen rows ≡ replicate (length rows) []
absent_numbers [] all = refl
absent_numbers (row ∷ rows) all =
    ap (λ (ns : List ℕ). ns ∷ map numbers_seen rows)
    (seen_numbers row ∙ ap (λ o. numbers_of o row.kept.numbers.items) (absent_seen row (All-head IsAbsent row rows all)))
    ∙ ap (λ (l : List (List ℕ)). [] ∷ l) (absent_numbers rows (All-tail IsAbsent row rows all))

-- ---- what holds of it

absent_long : (k : ℕ) → length (absent k) ≡ k
absent_long zero = refl
absent_long (suc k) = ap suc (absent_long k)

module _ (rows : ℕ) (few : rows ≤ BOOK_ROWS) where
  abbrev marks : List (Option RowMark)
  marks = row_marks (absent BOOK_ROWS) (replicate BOOK_ROWS [])

  no_mark : (r : ℕ) → get_or marks r None ≡ None
  no_mark r = mark_at (absent BOOK_ROWS) (replicate BOOK_ROWS []) r
      ∙ ap (λ o. row_mark o (get_or (replicate {A = List ℕ} BOOK_ROWS []) r [])) (none_absent BOOK_ROWS r)

  none : (A : Type 0) (r : ℕ) (mark : RowMark) → get_or marks r None ≡ Some mark → A
  none A r mark is = absurd (let e : None ≡ Some mark = sym (no_mark r) ∙ is in cc)

  pub no_marks : AreMarks rows marks
  no_marks = record {
    all = marks_long (absent BOOK_ROWS) (replicate BOOK_ROWS []) ∙ absent_long BOOK_ROWS;
    lawful = λ r mark is. none _ r mark is;
    inside = λ r mark is. none _ r mark is;
    differ = λ q r one other is there apart. none _ q one is;
  }

  pub own_none : (r : ℕ) → numbers_at (empty_store rows).mark (empty_store rows).held r ≡ []
  own_none r = ap (λ o. numbers_of o (get_or (replicate {A = List ℕ} BOOK_ROWS []) r [])) (none_absent BOOK_ROWS r)

  pub none_lawful : IsLawfulStore (empty_store rows)
  none_lawful = record {
    few = few;
    high = omega arith;
    held_all = absent_long BOOK_ROWS;
    numbers_all = length-replicate {A = List ℕ} BOOK_ROWS [];
    staged_all = length-replicate BOOK_ROWS false;
    drops_all = length-replicate {A = List ℕ} BOOK_ROWS [];
    marks = no_marks;
    none = λ r not_so. no_drops BOOK_ROWS r;
    drops = λ r. ap (entry_fault 0 ROW_PAGES [] 6) (no_drops BOOK_ROWS r);
    apart = λ r. subst (All (λ n. All (λ m. m ≢ n) (numbers_at (empty_store rows).mark (empty_store rows).held r)))
        (sym (no_drops BOOK_ROWS r)) (All-nil (λ n. All (λ m. m ≢ n) (numbers_at (empty_store rows).mark (empty_store rows).held r)));
  }

-- ---- as the code has it

module _ (rows : ℕ) (few : rows ≤ BOOK_ROWS) (desk : Desk) (held : List HeldRow) (staged : List Bool)
    (rows_is : desk.rows ≡ rows) (second_is : desk.second ≡ true) (turn_is : desk.turn ≡ 0)
    (body_is : desk.body.items ≡ replicate (BOOK_TABLE - 1) 0) (all : length held ≡ BOOK_ROWS)
    (nameless : All IsAbsent held) (clear : staged ≡ replicate BOOK_ROWS false) where
  held_is : map row_seen held ≡ absent BOOK_ROWS
  held_is = absent_held held nameless ∙ ap absent all

  numbers_are : map numbers_seen held ≡ replicate BOOK_ROWS []
  numbers_are = absent_numbers held nameless ∙ ap (λ n. replicate {A = List ℕ} n []) all

  drops_are : drops_seen staged held ≡ replicate BOOK_ROWS []
  drops_are = ap (λ (l : List Bool). drops_seen l held) (clear ∙ ap (λ n. replicate n false) (sym all))
      ∙ none_dropped held ∙ ap (λ n. replicate {A = List ℕ} n []) all

  pub seen_empty : store_of desk held staged false ≡ empty_store rows
  seen_empty = λ i. record {
    rows = rows_is i;
    mark = record { second = second_is i; turn = turn_is i; numbers = numbers_are i };
    held = held_is i;
    staged = clear i;
    drops = drops_are i;
    replaced = false;
  }

  pub lawful_empty : IsLawfulStore (store_of desk held staged false)
  lawful_empty = subst IsLawfulStore (sym seen_empty) (none_lawful rows few)

  pub laid_empty : desk.body.items ≡ body_of (store_of desk held staged false)
  laid_empty = body_is ∙ sym (none_laid (replicate BOOK_ROWS [])) ∙ sym (ap body_of seen_empty)
