-- In a book at rest no two rows have one name.
use Rattle.std.proofs.Common.{Bool, List, None, Option, Some, [], ap, arith, false, get_or, length, refl, subst, sym, true, ℕ, ◌∙◌, ◌≡◌, ◌≢◌}
use Rattle.std.specs.Str.{bytes_eq}
use Rattle.book_model.proofs.Names.{same_is, same_self}
use Rattle.book_model.specs.Rows.{Row, Rows}
use Rattle.book_store.specs.AtRest.{IsBookMarked, row_mark, row_marks}
use Rattle.book_store.specs.Marks.{RowMark}
use Rattle.book_store.specs.Shown.{BookRow}
use Rattle.book_store.specs.Store.{BookStore}
use Rattle.book_store.proofs.Books.Listed.{mark_at}
use Rattle.record_pages.specs.Pages.{page_count}
use Rattle.relay_wire.specs.Names.{is_name}
use Rattle.session_model.specs.Clients.{Client}
use Rattle.session_record.specs.Record.{record_text}
use Rattle.book.specs.Naming.{IsPlaceOf, is_named}
use Rattle.book.specs.Rows.{stored, stored_row}
use Rattle.book.proofs.Places.{IsOnly}
use Rattle.book.proofs.Stored.{stored_at}

pub differ : (a b : List ℕ) → a ≢ b → bytes_eq a b ≡ false
differ a b apart = by (bytes_eq a b) refl
  where
    by : (t : Bool) → bytes_eq a b ≡ t → t ≡ false
    by false is = refl
    by true is = absurd (apart (same_is a b is))

module _ (rows : Rows Client) (store : BookStore) (holds : store.held ≡ stored rows)
    (marked : IsBookMarked store.rows store.mark store.held) where
  pub held_at : (r : ℕ) → get_or store.held r None ≡ stored_row (get_or rows r None)
  held_at r = ap (λ (l : List (Option BookRow)). get_or l r None) holds ∙ stored_at rows r

  abbrev mark_of : ℕ → Row Client → RowMark
  mark_of r row = record {
    name = row.name;
    len = length (record_text row.kept);
    numbers = get_or store.mark.numbers r [];
  }

  mark_is : (r : ℕ) (row : Row Client) → get_or rows r None ≡ Some row
      → get_or (row_marks store.held store.mark.numbers) r None ≡ Some (mark_of r row)
  mark_is r row here = mark_at store.held store.mark.numbers r
      ∙ ap (λ (o : Option BookRow). row_mark o (get_or store.mark.numbers r [])) (held_at r ∙ ap stored_row here)

  pub lawful_name : (r : ℕ) (row : Row Client) → get_or rows r None ≡ Some row → is_name row.name ≡ true
  lawful_name r row here = (marked.marks.lawful r (mark_of r row) (mark_is r row here)).named

  -- each page of a row has a number
  pub numbers_long : (r : ℕ) (row : Row Client) → get_or rows r None ≡ Some row
      → length (get_or store.mark.numbers r []) ≡ page_count (length (record_text row.kept))
  numbers_long r row here = (marked.marks.lawful r (mark_of r row) (mark_is r row here)).each

  pub only : (at : ℕ) (row : Row Client) → get_or rows at None ≡ Some row → IsOnly row.name rows at row
  only at row here = record {
    here = here;
    named = same_self row.name;
    others = λ q other. by q other (get_or rows q None) refl;
  }
    where
      by : (q : ℕ) → q ≢ at → (o : Option (Row Client)) → get_or rows q None ≡ o → is_named row.name o ≡ false
      by q other None is = refl
      by q other (Some one) is = differ one.name row.name
          (marked.marks.differ q at (mark_of q one) (mark_of at row) (mark_is q one is) (mark_is at row here) other)

  pub place : (at : ℕ) (row : Row Client) → get_or rows at None ≡ Some row → IsPlaceOf row.name rows at
  place at row here = record {
    named = subst (λ (o : Option (Row Client)). is_named row.name o ≡ true) (sym here) (same_self row.name);
    first = λ q lt. (only at row here).others q (λ e. absurd (omega (arith, lt, e)));
  }
