use Rattle.std.proofs.Common.{None, get_or, length, vec_capacity, ℕ, ◌<◌, ◌≤◌, ◌≡◌}
use Rattle.book_store.specs.declared.layout.TheConstants.{BOOK_ROWS}
use Rattle.book.specs.Opening.{IsRowRead}
use Rattle.book.proofs.reading.fill_rows.Given as goal

abbrev pub invariant-rows : goal.invariant-rows
invariant-rows g l =
    record {
      long : length l.rows.items ≡ l.at;
      room : l.count ≤ vec_capacity l.rows;
      readers : length l.readers.items ≡ BOOK_ROWS;
      left : (r : ℕ) → l.at ≤ r → get_or l.readers.items r None ≡ get_or l.initial.readers.items r None;
      done : (r : ℕ) → r < l.at
          → IsRowRead g.K.Kem.mechanism (get_or l.store.held r None) (get_or l.rows.items r None);
    }
