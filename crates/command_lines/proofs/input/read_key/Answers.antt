use Rattle.std.proofs.Common.{ap, arith, length, rules, sym, ◌∙◌, ◌≤◌}
use Rattle.command_lines.specs.Inputs.{had_no_memory, is_bad, is_too_long, key_in_hex, read_failed}
use Rattle.command_lines.specs.declared.input.TheConstants.{KEY_TEXT_LIMIT}
use Rattle.command_lines.proofs.Texts.{text_as}
use Rattle.command_lines.proofs.input.read_key.Goals as goal

pub returns-in-Err-Memory : goal.returns-in-Err-Memory
returns-in-Err-Memory g c =
    let same = c.in-Err-Memory.ensures.unread (search rules) in
    record {
      input = had_no_memory (ap (λ s. (g.S.Source.at s).left) same) (ap (λ s. (g.S.Source.at s).faults) same);
      later = c.read_whole.ensures.later;
    }

pub returns-in-Err-TooLong : goal.returns-in-Err-TooLong
returns-in-Err-TooLong g c = record {
  input =
      is_too_long (c.in-Err-TooLong.ensures.too_long (search rules)) (c.in-Err-TooLong.ensures.past (search rules))
      (c.in-Err-TooLong.ensures.quiet (λ h. cc));
  later = c.read_whole.ensures.later;
}

pub returns-in-Err-Fault : goal.returns-in-Err-Fault
returns-in-Err-Fault g c = record {
  input = read_failed (c.in-Err-Fault.ensures.part (search rules)) (c.in-Err-Fault.ensures.fault (search rules));
  later = c.read_whole.ensures.later;
}

pub returns-in-Some : goal.returns-in-Some
returns-in-Some g c =
    let fits : length c.in-Ok.text.items ≤ KEY_TEXT_LIMIT =
    omega (arith, ap length c.as_slice.ensures.value, c.as_slice.ensures.len, c.in-Ok.ensures.fits) in
    record {
      input = record {
        text =
            text_as key_in_hex KEY_TEXT_LIMIT _ c.in-Ok.text.items _ c.in-Ok.ensures.whole fits
            (ap key_in_hex (sym c.as_slice.ensures.value) ∙ sym c.in-Some.ensures);
        drained = c.in-Ok.ensures.drained;
        quiet = c.in-Ok.ensures.quiet (λ h. cc);
      };
      later = c.read_whole.ensures.later;
    }

pub returns : goal.returns
returns g c =
    let fits : length c.in-Ok.text.items ≤ KEY_TEXT_LIMIT =
    omega (arith, ap length c.as_slice.ensures.value, c.as_slice.ensures.len, c.in-Ok.ensures.fits) in
    record {
      input =
          is_bad
          (text_as key_in_hex KEY_TEXT_LIMIT _ c.in-Ok.text.items _ c.in-Ok.ensures.whole fits
          (ap key_in_hex (sym c.as_slice.ensures.value) ∙ sym c.in-None.ensures))
          c.in-Ok.ensures.drained (c.in-Ok.ensures.quiet (λ h. cc));
      later = c.read_whole.ensures.later;
    }
