-- the rows so far have no fault
use Rattle.std.proofs.Common.{◌≡◌, ◌-◌, ◌≤◌, vec_capacity}
use Rattle.book_store.specs.Judging.{all_rows_fault, rows_fault}
use Rattle.book_store.proofs.judging.rows_fault.Given as goal
use Rattle.book_store.specs.declared.layout.TheConstants.{BOOK_ROWS, ROW_MOST}

abbrev pub invariant-rows : goal.invariant-rows
invariant-rows l = record {
  fault : all_rows_fault l.rows l.body ≡ rows_fault (BOOK_ROWS - l.row) l.row l.rows l.body;
  room : ROW_MOST ≤ vec_capacity l.numbers;
}
