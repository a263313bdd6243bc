-- whether one of the rows so far has the name
use Rattle.std.proofs.Common.{◌≡◌}
use Rattle.book_store.specs.Judging.{is_taken}
use Rattle.book_store.proofs.rows.is_taken.Given as goal

abbrev pub invariant-rows : goal.invariant-rows
invariant-rows l = l.taken ≡ is_taken l.row l.body l.name
