-- the rows so far are gathered
use Rattle.std.proofs.Common.{◌≡◌, ◌≤◌, ◌-◌, ◌*◌, ◌++◌, [], get_or, length, vec_capacity}
use Rattle.book_store.specs.Held.{drops_seen}
use Rattle.book_store.specs.Rows.{names_by}
use Rattle.book_store.specs.declared.layout.TheConstants.{ROW_MOST}
use Rattle.book_store.proofs.gathering.gather.Given as goal

abbrev pub invariant-rows : goal.invariant-rows
invariant-rows l = record {
  gathered : names_by l.count 0 (λ r. get_or (drops_seen l.staged l.rows) r [])
      ≡ l.out.items ++ names_by (l.count - l.row) l.row (λ r. get_or (drops_seen l.staged l.rows) r []);
  long : length l.out.items ≤ ROW_MOST * l.row;
  room : vec_capacity l.fn.out ≤ vec_capacity l.out;
}
