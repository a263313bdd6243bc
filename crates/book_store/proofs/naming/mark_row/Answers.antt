use Rattle.std.proofs.Common.{◌<◌, true, length, sym, ◌∙◌, ap, subst, arith}
use Rattle.std.proofs.Math.ListN.{set}
use Rattle.book_store.proofs.Openings.PageMarks.{mark_all, mark_more}
use Rattle.book_store.proofs.RowPlans.{shifted_at, shifted_long}
use Rattle.book_store.specs.Rows.{shifted}
use Rattle.book_store.proofs.naming.mark_row.Goals as goal

pub numbers-preserved : goal.numbers-preserved
numbers-preserved c = λ n.
    let numbers = c.args.numbers.now in
    let row = c.args.row in
    mark_more c.numbers.named _ c.args.named.now (shifted row numbers) c.numbers.i n
    (omega (arith, shifted_long row numbers, c.numbers-test.true))
    (subst (λ k. k < length c.numbers.named) (sym (shifted_at row numbers c.numbers.i c.numbers-test.true))
    (omega (arith, c.requires.own c.numbers.i 0 c.numbers-test.true, c.requires.row, c.requires.room, c.numbers.auto.named)))
    (ap (λ k. set c.numbers.named k true) (sym (shifted_at row numbers c.numbers.i c.numbers-test.true)))
    (c.numbers.invariant n)

pub returns-clause-marks : goal.returns-clause-marks
returns-clause-marks c = λ n. c.numbers.invariant n
    ∙ mark_all _ (shifted c.args.row c.args.numbers.now) c.numbers.i n
    (omega (arith, shifted_long c.args.row c.args.numbers.now, c.numbers-test.false))
