use Rattle.scripts.specs.Lined.{lined_deed}
use Rattle.scripts.proofs.Reading.{all_counted, bad_counted, good_line, none_counted, one_counted, bad_line}
use Rattle.scripts.proofs.script.count_lines.Goals as goal

pub lines-init : goal.lines-init
lines-init c = none_counted c.args.from c.args.text.now

pub returns-then-is_none-clause-err : goal.returns-then-is_none-clause-err
returns-then-is_none-clause-err c =
    bad_counted _ _ _ _ _ c.lines.number c.lines.invariant c.in-Some.ensures.line
    (bad_line lined_deed c.parse.result _ _ c.parse.ensures c.is_none.ensures c.if-is_none.true)

pub lines-preserved : goal.lines-preserved
lines-preserved c =
    let good = good_line lined_deed c.parse.result _ _ c.parse.ensures c.is_none.ensures c.if-is_none.false in
    one_counted _ _ _ _ _ c.lines.number good.0 c.lines.invariant c.in-Some.ensures.line
    c.in-Some.ensures.shorter good.1

pub returns-clause-ok : goal.returns-clause-ok
returns-clause-ok c = (all_counted _ _ _ c.lines.number c.lines.invariant c.in_default.ensures.line).0

pub returns-clause-read : goal.returns-clause-read
returns-clause-read c = (all_counted _ _ _ c.lines.number c.lines.invariant c.in_default.ensures.line).1
