use Rattle.std.proofs.Common.{None, get_or, true, ℕ, ◌<◌, ◌≡◌}
use Rattle.std.specs.Prelude.{is_some}
use Rattle.book.proofs.row.find_free.Given as goal

abbrev pub invariant-rows : goal.invariant-rows
invariant-rows g l = (q : ℕ) → q < l.at → is_some (get_or l.rows q None) ≡ true
