-- A store of which a row is staged holds what every store does.
use Rattle.std.proofs.Common.{◌≡◌, ◌≢◌, ⊎_elim, ℕ, ◌<◌, true, false, List, [], Option, None, Some, get_or, length, refl, sym, ◌∙◌, ap, subst, arith}
use Rattle.std.proofs.lemmas.Bool.{cases_eq}
use Rattle.std.proofs.lemmas.List.{length-set}
use Rattle.record_pages.specs.Tables.{entry_fault}
use Rattle.record_pages.proofs.LawfulEntries.{AreNone}
use Rattle.book_store.proofs.Books.Listed.{mark_at, marks_set}
use Rattle.book_store.proofs.Books.Marking.{at_place, body_with, by_place, elsewhere, marks_with}
use Rattle.book_store.specs.AtRest.{row_mark, row_marks}
use Rattle.book_store.specs.Marks.{AreMarks, IsRowMark, RowMark, book_body, mark_text}
use Rattle.book_store.specs.Rows.{with_row_in}
use Rattle.book_store.specs.Shown.{BookRow}
use Rattle.book_store.specs.Store.{BookStore, IsLawfulStore, IsNewName, body_of, drops_at, numbers_at, numbers_of, with_staged}
use Rattle.book_store.specs.declared.layout.TheConstants.{BOOK_ROWS, ROW_PAGES}

-- the row that a mark is of
pub record IsMarkOf (row : Option BookRow) (numbers : List ℕ) (mark : RowMark) : Type 0 where
  pub shown : BookRow
  pub is : row ≡ Some shown
  pub same : record { name = shown.name; len = length shown.text; numbers = numbers } ≡ mark

pub mark_of : (row : Option BookRow) (numbers : List ℕ) (mark : RowMark) → row_mark row numbers ≡ Some mark
    → IsMarkOf row numbers mark
mark_of None numbers mark is = absurd (let e : None ≡ Some mark = is in cc)
mark_of (Some shown) numbers mark is = record {
  shown = shown;
  is = refl;
  same = let e : Some (record { name = shown.name; len = length shown.text; numbers = numbers }) ≡ Some mark = is in cc;
}

module _ (store : BookStore) (lawful : IsLawfulStore store) (row : ℕ) (here : row < store.rows) where
  abbrev marks : List (Option RowMark)
  marks = row_marks store.held store.mark.numbers

  inside : row < BOOK_ROWS
  inside = omega (arith, here, lawful.few)

  each_number : length store.mark.numbers ≡ length store.held
  each_number = lawful.numbers_all ∙ sym lawful.held_all

  module _ (new : Option BookRow) (ns gone : List ℕ)
      (is : (shown : BookRow) → new ≡ Some shown
      → IsRowMark (record { name = shown.name; len = length shown.text; numbers = ns }))
      (named : (shown : BookRow) → new ≡ Some shown → IsNewName store row shown.name)
      (drops : entry_fault 0 ROW_PAGES [] 6 gone ≡ None) (apart : AreNone gone (numbers_of new ns)) where
    abbrev next : BookStore
    next = with_staged store row new ns gone

    new_lawful : (mark : RowMark) → row_mark new ns ≡ Some mark → IsRowMark mark × (row < store.rows)
    new_lawful mark same =
        let of = mark_of new ns mark same in
        (subst IsRowMark of.same (is of.shown of.is), here)

    new_differs : (r : ℕ) (mark other : RowMark) → r ≢ row → row_mark new ns ≡ Some mark
        → get_or marks r None ≡ Some other → other.name ≢ mark.name
    new_differs r mark other away same there =
        let of = mark_of new ns mark same in
        let beside = mark_of (get_or store.held r None) (get_or store.mark.numbers r []) other
        (sym (mark_at store.held store.mark.numbers r) ∙ there) in
        λ e. named of.shown of.is r beside.shown away beside.is
        (ap (λ m. m.name) beside.same ∙ e ∙ sym (ap (λ m. m.name) of.same))

    next_marks : AreMarks store.rows (row_marks next.held next.mark.numbers)
    next_marks = subst (AreMarks store.rows) (sym (marks_set store.held store.mark.numbers row new ns each_number))
        (marks_with store.rows marks lawful.marks row inside (row_mark new ns) new_lawful new_differs)

    drops_fit : row < length store.drops
    drops_fit = omega (arith, inside, lawful.drops_all)

    held_fit : row < length store.held
    held_fit = omega (arith, inside, lawful.held_all)

    numbers_fit : row < length store.mark.numbers
    numbers_fit = omega (arith, inside, lawful.numbers_all)

    pub own_here : (r : ℕ) → r ≡ row → numbers_at next.mark next.held r ≡ numbers_of new ns
    own_here r same = ap (λ o. numbers_of o (get_or next.mark.numbers r [])) (at_place store.held row r new None held_fit same)
        ∙ ap (numbers_of new) (at_place store.mark.numbers row r ns [] numbers_fit same)

    pub own_there : (r : ℕ) → r ≢ row → numbers_at next.mark next.held r ≡ numbers_at store.mark store.held r
    own_there r other = ap (λ o. numbers_of o (get_or next.mark.numbers r [])) (elsewhere store.held row r new None other)
        ∙ ap (numbers_of (get_or store.held r None)) (elsewhere store.mark.numbers row r ns [] other)

    pub drops_here : (r : ℕ) → r ≡ row → drops_at next r ≡ gone
    drops_here r same = at_place store.drops row r gone [] drops_fit same

    pub drops_there : (r : ℕ) → r ≢ row → drops_at next r ≡ drops_at store r
    drops_there r other = elsewhere store.drops row r gone [] other

    next_apart : (r : ℕ) → AreNone (drops_at next r) (numbers_at next.mark next.held r)
    next_apart r = ⊎_elim
        (λ same. subst (λ l. AreNone l (numbers_at next.mark next.held r)) (sym (drops_here r same))
        (subst (AreNone gone) (sym (own_here r same)) apart))
        (λ other. subst (λ l. AreNone l (numbers_at next.mark next.held r)) (sym (drops_there r other))
        (subst (AreNone (drops_at store r)) (sym (own_there r other)) (lawful.apart r)))
        (cases_eq r row)

    staged_fit : row < length store.staged
    staged_fit = omega (arith, inside, lawful.staged_all)

    pub none_staged : (r : ℕ) → get_or next.staged r true ≡ false → r ≢ row
    none_staged r not_so same = absurd (let e : true ≡ false = sym (at_place store.staged row r true true staged_fit same) ∙ not_so in cc)

    pub still_unstaged : (r : ℕ) → get_or next.staged r true ≡ false → get_or store.staged r true ≡ false
    still_unstaged r not_so = sym (elsewhere store.staged row r true true (none_staged r not_so)) ∙ not_so

    pub next_lawful : IsLawfulStore next
    next_lawful = record {
      few = lawful.few;
      high = lawful.high;
      held_all = length-set store.held row new ∙ lawful.held_all;
      numbers_all = length-set store.mark.numbers row ns ∙ lawful.numbers_all;
      staged_all = length-set store.staged row true ∙ lawful.staged_all;
      drops_all = length-set store.drops row gone ∙ lawful.drops_all;
      marks = next_marks;
      none = λ r not_so. drops_there r (none_staged r not_so) ∙ lawful.none r (still_unstaged r not_so);
      drops = by_place (λ r l. entry_fault 0 ROW_PAGES [] 6 l ≡ None) store.drops row gone [] drops_fit drops
          (λ r other. lawful.drops r);
      apart = next_apart;
    }

    pub next_body : with_row_in (body_of store) row (mark_text (row_mark new ns)) ≡ body_of next
    next_body = body_with store.rows marks lawful.marks row inside store.mark.turn (row_mark new ns)
        ∙ ap (book_body store.mark.turn) (sym (marks_set store.held store.mark.numbers row new ns each_number))
