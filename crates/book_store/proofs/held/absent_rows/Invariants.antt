-- the rows so far are absent
use Rattle.std.proofs.Common.{◌≡◌, length, None}
use Rattle.std.specs.Prelude.{All}
use Rattle.book_store.proofs.held.absent_rows.Given as goal

abbrev pub invariant-rows : goal.invariant-rows
invariant-rows l = record {
  long : length l.rows.items ≡ l.i;
  absent : All (λ row. row.name ≡ None) l.rows.items;
}
