use Rattle.std.proofs.Common.{refl, ◌∙◌, arith}
use Rattle.slot_store.proofs.Wipings.Marks.{mark_all, mark_more}
use Rattle.slot_store.proofs.settling.mark_pages.Goals as goal

pub numbers-preserved : goal.numbers-preserved
numbers-preserved c = λ n. mark_more c.numbers.named _ c.args.named.now c.args.numbers.now c.numbers.i n c.numbers-test.true
    (omega (arith, c.requires.inside c.numbers.i 0 c.numbers-test.true, c.numbers.auto.named)) refl (c.numbers.invariant n)

pub returns-clause-marks : goal.returns-clause-marks
returns-clause-marks c = λ n. c.numbers.invariant n
    ∙ mark_all _ c.args.numbers.now c.numbers.i n (omega (arith, c.numbers-test.false))
