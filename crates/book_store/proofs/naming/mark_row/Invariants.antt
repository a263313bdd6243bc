-- the numbers so far are marked
use Rattle.std.proofs.Common.{◌≡◌, ◌||◌, ℕ, false, get_or, take}
use Rattle.record_pages.specs.Plans.{is_among}
use Rattle.book_store.specs.Rows.{shifted}
use Rattle.book_store.proofs.naming.mark_row.Given as goal

abbrev pub invariant-numbers : goal.invariant-numbers
invariant-numbers l = (n : ℕ) → get_or l.named n false
    ≡ (get_or l.fn.named n false || is_among (take l.i (shifted l.row l.numbers)) n)
