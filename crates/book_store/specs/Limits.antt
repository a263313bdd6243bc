-- The limits of a book, as numbers.
use Rattle.std.specs.Prelude.{◌≡◌}
use Rattle.book_store.specs.Counts.{opening_reads, openings}
use Rattle.book_store.specs.declared.layout.TheConstants.{BOOK_ROWS, BOOK_SIZE, BOOK_START, BOOK_TABLE, RECORD_PLACE, ROW_MOST, ROW_PAGES, ROW_SIZE, TABLE_ROW}

-- rows, a row's pages, the pages of its record, and where all of it lies; of an opening of all rows
-- the most writes and syncs, and the most reads
pub record HasLimits : Type 0 where
  pub rows : BOOK_ROWS ≡ 32
  pub pages : ROW_PAGES ≡ 384
  pub most : ROW_MOST ≡ 190
  pub table : BOOK_TABLE ≡ 20480
  pub table_row : TABLE_ROW ≡ 512
  pub record_place : RECORD_PLACE ≡ 41
  pub start : BOOK_START ≡ 65536
  pub row_size : ROW_SIZE ≡ 1572864
  pub size : BOOK_SIZE ≡ 50397184
  pub opening : openings BOOK_ROWS ≡ 24585
  pub opening_reads_are : opening_reads BOOK_ROWS ≡ 30662
