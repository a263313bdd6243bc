-- A book's tables and pages lie apart.
use Rattle.std.proofs.Common.{◌≡◌, inl, inr, ⊎_elim, ℕ, ◌+◌, ◌*◌, ◌^◌, ◌≤◌, ◌<◌, Bool, true, false, ◌∙◌, arith}
use Rattle.std.proofs.lemmas.Bool.{cases_lt}
use Rattle.dr_base.specs.declared.limits.TheConstants.{PAGE}
use Rattle.pages.specs.declared.layout.TheConstants.{LOWER_PAGES}
use Rattle.pages.specs.Layouts.{AreApart, IsPage, IsSound, page_place, table_place}
use Rattle.pages.proofs.SoundLayouts.{place_high, place_low}
use Rattle.book_store.specs.Layout.{book_end, book_layout}
use Rattle.book_store.specs.declared.layout.TheConstants.{BOOK_START, BOOK_TABLE, ROW_PAGES, ROW_SIZE}

-- the pages lie in one row
pub place : (rows n : ℕ) → page_place (book_layout rows) n ≡ BOOK_START + PAGE * n
place rows n = ⊎_elim (λ lt. place_low (book_layout rows) n lt)
    (λ le. place_high (book_layout rows) n le ∙ omega (arith, le))
    (cases_lt n LOWER_PAGES)

-- page p of row s
pub page_in_row : (rows s p : ℕ)
    → page_place (book_layout rows) (ROW_PAGES * s + p) ≡ BOOK_START + ROW_SIZE * s + PAGE * p
page_in_row rows s p = place rows (ROW_PAGES * s + p) ∙ omega arith

pub book_sound : (rows size : ℕ) → size < 2 ^ 64 → book_end rows ≤ size
    → IsSound (book_layout rows) size
book_sound rows size ends fits = record {
  least = omega arith;
  ends = ends;
  tables = inl (omega arith);
  tables_within = within;
  pages_within = λ n is. omega (arith, place rows n, is.1, fits);
  beside_tables = beside;
  pages = λ m n is_m is_n other. ⊎_elim (λ lt. inl (omega (arith, place rows m, place rows n, lt)))
      (λ le. inr (omega (arith, place rows m, place rows n, le, other))) (cases_lt m n);
}
  where
    within : (k : Bool) → table_place (book_layout rows) k + BOOK_TABLE ≤ size
    within false = omega (arith, fits)
    within true = omega (arith, fits)

    beside : (k : Bool) (n : ℕ) → IsPage (book_layout rows) n
        → AreApart (table_place (book_layout rows) k) BOOK_TABLE (page_place (book_layout rows) n) PAGE
    beside false n is = inl (omega (arith, place rows n))
    beside true n is = inl (omega (arith, place rows n))
