use Rattle.std.proofs.Common.{None, false, get_or, ℕ, ◌<◌, ◌≡◌}
use Rattle.book.specs.Naming.{is_named}
use Rattle.book.proofs.row.find.Given as goal

abbrev pub invariant-rows : goal.invariant-rows
invariant-rows g l = (q : ℕ) → q < l.at → is_named l.name (get_or l.rows q None) ≡ false
