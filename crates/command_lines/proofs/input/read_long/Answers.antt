use Rattle.std.proofs.Common.{ap, arith, length, refl, rules, ◌≤◌}
use Rattle.command_lines.specs.Inputs.{had_no_memory, is_too_long, read_failed, whole_text}
use Rattle.long_text.specs.declared.limits.TheConstants.{LONG_LIMIT}
use Rattle.command_lines.proofs.Texts.{text_as}
use Rattle.command_lines.proofs.input.read_long.Goals as goal

pub returns-in-Err-Memory-clause-reads : goal.returns-in-Err-Memory-clause-reads
returns-in-Err-Memory-clause-reads g c =
    let same = c.in-Err-Memory.ensures.unread (search rules) in
    record {
      input = had_no_memory (ap (λ s. (g.S.Source.at s).left) same) (ap (λ s. (g.S.Source.at s).faults) same);
      later = c.read_whole.ensures.later;
    }

pub returns-in-Err-TooLong-clause-reads : goal.returns-in-Err-TooLong-clause-reads
returns-in-Err-TooLong-clause-reads g c = record {
  input =
      is_too_long (c.in-Err-TooLong.ensures.too_long (search rules)) (c.in-Err-TooLong.ensures.past (search rules))
      (c.in-Err-TooLong.ensures.quiet (λ h. cc));
  later = c.read_whole.ensures.later;
}

pub returns-in-Err-Fault-clause-reads : goal.returns-in-Err-Fault-clause-reads
returns-in-Err-Fault-clause-reads g c = record {
  input = read_failed (c.in-Err-Fault.ensures.part (search rules)) (c.in-Err-Fault.ensures.fault (search rules));
  later = c.read_whole.ensures.later;
}

pub returns-in-Ok-clause-reads : goal.returns-in-Ok-clause-reads
returns-in-Ok-clause-reads g c =
    let fits : length c.in-Ok.text.items ≤ LONG_LIMIT =
    omega (arith, c.in-Ok.text.ok.0, c.in-Ok.ensures.fits) in
    record {
      input = record {
        text = text_as whole_text LONG_LIMIT _ c.in-Ok.text.items _ c.in-Ok.ensures.whole fits refl;
        drained = c.in-Ok.ensures.drained;
        quiet = c.in-Ok.ensures.quiet (λ h. cc);
      };
      later = c.read_whole.ensures.later;
    }
