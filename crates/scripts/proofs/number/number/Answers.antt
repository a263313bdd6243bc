use Rattle.std.proofs.Common.{rules, ◌≡◌, true, get_or}
use Rattle.std.specs.Char.{is_ascii_digit}
use Rattle.scripts.proofs.Digits.{value_more, all_more}
use Rattle.scripts.proofs.number.number.Goals as goal

pub digits-preserved : goal.digits-preserved
digits-preserved c =
    let d : is_ascii_digit (get_or c.args.text.now c.digits.byte-index 0) ≡ true = search rules in
    let e = value_more c.args.text.now c.digits.byte-index c.digits.value c.digits-test.true d c.digits.invariant.value in
    record {
      value = cc e;
      digits = all_more c.args.text.now c.digits.byte-index c.digits-test.true c.digits.invariant.digits d;
    }
