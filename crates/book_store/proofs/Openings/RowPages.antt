-- The pages of one row, by their own numbers and by the book's.
use Rattle.std.proofs.Common.{◌≡◌, inl, inr, ⊎_elim, ℕ, ◌+◌, ◌*◌, ◌^◌, ◌≤◌, ◌<◌, Bool, true, false, List, [], ◌∷◌, map, refl, sym, ◌∙◌, ap, ap₂, arith}
use Rattle.std.specs.Prelude.{slice_range}
use Rattle.std.proofs.lemmas.Bool.{cases_lt}
use Rattle.dr_base.specs.declared.limits.TheConstants.{PAGE}
use Rattle.pages.specs.declared.layout.TheConstants.{LOWER_PAGES}
use Rattle.pages.specs.Layouts.{AreApart, IsPage, IsSound, page_place, table_place}
use Rattle.pages.specs.Snapshots.{page_of}
use Rattle.pages.proofs.SoundLayouts.{place_high, place_low}
use Rattle.book_store.proofs.Names.{mapped}
use Rattle.book_store.proofs.Sound.{page_in_row}
use Rattle.book_store.specs.Layout.{book_end, book_layout}
use Rattle.book_store.specs.RowReading.{pages_read, row_layout}
use Rattle.book_store.specs.Rows.{book_names, row_in, row_names, shifted}
use Rattle.book_store.specs.RowsReading.{book_read}
use Rattle.book_store.specs.declared.layout.TheConstants.{BOOK_ROWS, BOOK_START, BOOK_TABLE, ROW_PAGES, ROW_SIZE}

place : (r p : ℕ) → page_place (row_layout r) p ≡ BOOK_START + ROW_SIZE * r + PAGE * p
place r p = ⊎_elim (λ lt. place_low (row_layout r) p lt)
    (λ le. place_high (row_layout r) p le ∙ omega (arith, le))
    (cases_lt p LOWER_PAGES)

pub row_sound : (r size : ℕ) → size < 2 ^ 64 → book_end (r + 1) ≤ size → IsSound (row_layout r) size
row_sound r size ends fits = record {
  least = omega arith;
  ends = ends;
  tables = inl (omega arith);
  tables_within = within;
  pages_within = λ n is. omega (arith, place r n, is.1, fits);
  beside_tables = beside;
  pages = λ m n is_m is_n other. ⊎_elim (λ lt. inl (omega (arith, place r m, place r n, lt)))
      (λ le. inr (omega (arith, place r m, place r n, le, other))) (cases_lt m n);
}
  where
    within : (k : Bool) → table_place (row_layout r) k + BOOK_TABLE ≤ size
    within false = omega (arith, fits)
    within true = omega (arith, fits)

    beside : (k : Bool) (n : ℕ) → IsPage (row_layout r) n
        → AreApart (table_place (row_layout r) k) BOOK_TABLE (page_place (row_layout r) n) PAGE
    beside false n is = inl (omega (arith, place r n))
    beside true n is = inl (omega (arith, place r n))

module _ (rows r : ℕ) (s : List ℕ) where
  same_page : (p : ℕ) → page_of (book_layout rows) s (ROW_PAGES * r + p) ≡ page_of (row_layout r) s p
  same_page p = ap (λ n. slice_range s n (n + PAGE)) (page_in_row rows r p ∙ sym (place r p))

  pub same_pages : (ns : List ℕ) → map (page_of (book_layout rows) s) (shifted r ns) ≡ map (page_of (row_layout r) s) ns
  same_pages [] = refl
  same_pages (n ∷ ns) = ap₂ (λ (x : List ℕ) (xs : List (List ℕ)). x ∷ xs) (same_page n) (same_pages ns)

-- what stands at all pages that a table names
pub read_all : (rows : ℕ) (body s : List ℕ) → map (page_of (book_layout rows) s) (book_names body) ≡ book_read body s
unfolding book_names
read_all rows body s = mapped (page_of (book_layout rows) s) BOOK_ROWS 0 (λ r. row_names (row_in body r))
    (λ r. pages_read r (row_in body r) s) (λ r le lt. same_pages rows r s (row_names (row_in body r)))
