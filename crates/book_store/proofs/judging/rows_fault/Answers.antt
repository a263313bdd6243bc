use Rattle.std.proofs.Common.{◌≡◌, ◌-◌, ℕ, List, refl, ap, sym, ◌∙◌, arith}
use Rattle.std.specs.Prelude.{nat_lt}
use Rattle.book_store.specs.Judging.{all_rows_fault, row_fault, rows_fault}
use Rattle.book_store.proofs.Taken.{rows_go_on, rows_stop}
use Rattle.book_store.proofs.judging.rows_fault.Goals as goal
use Rattle.book_store.specs.declared.layout.TheConstants.{BOOK_ROWS}

pub rows-init : goal.rows-init
unfolding all_rows_fault
rows-init c = record { fault = refl; room = c.requires.room }

pub returns-in-Some : goal.returns-in-Some
returns-in-Some c =
    sym (c.rows.invariant.fault
    ∙ rows_stop c.rows.row c.args.rows c.args.body.now (omega arith) c.row_fault.result
    (sym (c.row_fault.ensures.fault
    ∙ ap (λ (l : List ℕ). row_fault (nat_lt c.rows.row c.args.rows) c.args.body.now c.rows.row l) c.row_of-bytes.ensures.value))
    c.in-Some.at c.in-Some.is)

pub rows-preserved : goal.rows-preserved
rows-preserved c = record {
  fault = c.rows.invariant.fault
      ∙ rows_go_on c.rows.row c.args.rows c.args.body.now (omega arith) c.row_fault.result
      (sym (c.row_fault.ensures.fault
      ∙ ap (λ (l : List ℕ). row_fault (nat_lt c.rows.row c.args.rows) c.args.body.now c.rows.row l) c.row_of-bytes.ensures.value))
      c.in-None.is;
  room = omega (arith, c.rows.invariant.room, c.row_fault.ensures.capacity);
}

pub returns : goal.returns
returns c =
    let last : c.rows.row ≡ BOOK_ROWS = omega (arith, c.rows-test.false, c.rows.auto.row-end) in
    let none : BOOK_ROWS - c.rows.row ≡ 0 = omega (arith, last) in
    sym (c.rows.invariant.fault ∙ ap (λ k. rows_fault k c.rows.row c.args.rows c.args.body.now) none)
