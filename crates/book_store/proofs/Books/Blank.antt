-- A disk of zeros is a book at rest in which no row is present.
use Rattle.std.proofs.Common.{◌≡◌, ℕ, ◌+◌, ◌-◌, ◌≤◌, ◌<◌, Bool, true, false, List, [], replicate, take, refl, sym, ◌∙◌, ap, arith}
use Rattle.std.specs.Prelude.{map, slice_index, slice_range}
use Rattle.std.proofs.lemmas.List.{drop-replicate, get_or-replicate, take-replicate}
use Rattle.dr_base.specs.declared.limits.TheConstants.{PAGE}
use Rattle.pages.specs.declared.layout.Layout.{Layout}
use Rattle.pages.specs.Layouts.{IsPage, blank_page, page_place}
use Rattle.pages.specs.Snapshots.{page_of}
use Rattle.pages.specs.Tables.{table_at, wiped}
use Rattle.book_store.proofs.Books.Empty.{no_marks, own_none}
use Rattle.book_store.proofs.Books.Laying.{row_named}
use Rattle.book_store.proofs.Books.Zeros.{none_laid}
use Rattle.book_store.proofs.Names.{rows_same}
use Rattle.book_store.proofs.Sound.{place}
use Rattle.book_store.specs.AtRest.{IsBookMarked, row_marks}
use Rattle.book_store.specs.Layout.{book_end, book_layout}
use Rattle.book_store.specs.Marks.{book_body}
use Rattle.book_store.specs.Rows.{book_names, row_in, row_names}
use Rattle.book_store.specs.Shown.{absent}
use Rattle.book_store.specs.Staging.{Rests}
use Rattle.book_store.specs.Store.{empty_store}
use Rattle.book_store.specs.declared.layout.TheConstants.{BOOK_ROWS, BOOK_TABLE}

pub none_marked : (rows : ℕ) → rows ≤ BOOK_ROWS → IsBookMarked rows (empty_store rows).mark (empty_store rows).held
none_marked rows few = record { high = omega arith; marks = no_marks rows few; none = λ is. refl }

module _ (size : ℕ) where
  abbrev zeros : List ℕ
  zeros = replicate size 0

  range_blank : (a b : ℕ) → a ≤ b → b ≤ size → slice_range zeros a b ≡ replicate (b - a) 0
  range_blank a b le fits = ap (take (b - a)) (drop-replicate a size 0)
      ∙ take-replicate (b - a) (size - a) 0 (omega (arith, le, fits))

  at_blank : (i : ℕ) → i < size → slice_index zeros i ≡ 0
  at_blank i lt = get_or-replicate size i 0 0 lt

  module _ (rows : ℕ) (few : rows ≤ BOOK_ROWS) (fits : book_end rows ≤ size) where
    abbrev l : Layout
    l = book_layout rows

    table_blank : (k : Bool) → table_at l k zeros ≡ wiped BOOK_TABLE
    table_blank false = λ i. record {
      gate = at_blank 0 (omega (arith, fits)) i;
      body = range_blank 1 BOOK_TABLE (omega arith) (omega (arith, fits)) i;
    }
    table_blank true = λ i. record {
      gate = at_blank BOOK_TABLE (omega (arith, fits)) i;
      body = range_blank (BOOK_TABLE + 1) (BOOK_TABLE + BOOK_TABLE) (omega arith) (omega (arith, fits)) i;
    }

    page_blank : (m : ℕ) → IsPage l m → page_of l zeros m ≡ blank_page
    page_blank m is =
        let at = place rows m in
        range_blank (page_place l m) (page_place l m + PAGE) (omega arith) (omega (arith, at, is.1, fits))
        ∙ ap (λ n. replicate n 0) (let e : page_place l m + PAGE - page_place l m ≡ PAGE = omega arith in e)

    abbrev body : List ℕ
    body = book_body 0 (row_marks (absent BOOK_ROWS) (replicate BOOK_ROWS []))

    pub none_named : book_names body ≡ []
    unfolding book_names
    none_named = rows_same BOOK_ROWS 0 (λ r. row_names (row_in body r)) (λ r. [])
        (λ s le lt. row_named rows 0 (absent BOOK_ROWS) (replicate BOOK_ROWS []) (no_marks rows few) s (omega (arith, lt)) ∙ own_none rows few s)

    pub zeros_rest : Rests (empty_store rows) zeros
    unfolding Rests
    zeros_rest = record {
      laid_out = record {
        still = record {
          current = table_blank true;
          pages = ap (λ (b : List ℕ). map (page_of l zeros) (book_names b)) (sym (none_laid (replicate BOOK_ROWS [])))
              ∙ ap (λ (ns : List ℕ). map (page_of l zeros) ns) none_named;
          shut = at_blank 0 (omega (arith, fits));
        };
        other = table_blank false;
        blank = λ m is beside. page_blank m is;
      };
      marked = none_marked rows few;
    }
