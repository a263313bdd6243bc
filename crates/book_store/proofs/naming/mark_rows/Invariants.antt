-- the pages of the rows so far are marked
use Rattle.std.proofs.Common.{◌≡◌, ◌||◌, ◌-◌, [], ℕ, false, get_or, length, map}
use Rattle.record_pages.specs.Plans.{is_among}
use Rattle.book_store.specs.Held.{held_names, numbers_seen}
use Rattle.book_store.specs.Rows.{names_by}
use Rattle.book_store.specs.declared.layout.TheConstants.{BOOK_ROWS}
use Rattle.book_store.proofs.naming.mark_rows.Given as goal

abbrev pub invariant-rows : goal.invariant-rows
invariant-rows l = record {
  marks : (n : ℕ) → (get_or l.fn.named n false
      || is_among (held_names l.rows) n)
      ≡ (get_or l.named n false
      || is_among (names_by (BOOK_ROWS - l.row) l.row (λ r. get_or (map numbers_seen l.rows) r [])) n);
  long : length l.named ≡ length l.fn.named;
}
