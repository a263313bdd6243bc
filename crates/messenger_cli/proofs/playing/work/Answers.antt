use Rattle.std.proofs.Common.{inr, rules, ◌≤◌, [], length, arith, refl, sym, ◌∙◌, ap}
use Rattle.scripts.specs.Script.{script_of}
use Rattle.messenger_cli.specs.Mechanisms.{played_named}
use Rattle.dr_ports.proofs.Told.{appended-none}
use Rattle.messenger_cli.specs.declared.playing.TheConstants.{SCRIPT_LIMIT}
use Rattle.messenger_cli.proofs.Traces.{cut_short, has_no_pair, is_trace}
use Rattle.messenger_cli.proofs.playing.work.Goals as goal

pub returns-in-Ok-play_named-clause-ended : goal.returns-in-Ok-play_named-clause-ended
returns-in-Ok-play_named-clause-ended g c =
    let fits : length c.in-Ok.text.items ≤ SCRIPT_LIMIT =
    omega (arith, ap length c.as_slice.ensures.value, c.as_slice.ensures.len, c.in-Ok.ensures.fits) in
    record {
      lines = played_named c.in-Ok-parse.script;
      reason = is_trace _ _ _ c.in-Ok.ensures.whole fits (ap script_of (sym c.as_slice.ensures.value) ∙ c.in-Ok-parse.ensures.ok) c.in-Ok-play_named.ensures.pair;
      leaves = c.in-Ok.ensures.drained;
      reads = c.in-Ok.ensures.quiet (λ h. cc);
      wrote = c.in-Ok-play_named.ensures.ok;
      quiet = c.in-Ok-play_named.ensures.quiet (λ h. cc);
    }

pub returns-clause-cut : goal.returns-clause-cut
returns-clause-cut g c =
    let fits : length c.in-Ok.text.items ≤ SCRIPT_LIMIT =
    omega (arith, ap length c.as_slice.ensures.value, c.as_slice.ensures.len, c.in-Ok.ensures.fits) in
    let write = c.in-Err-Write.ensures.write (search rules) in
    record {
      lines = played_named c.in-Ok-parse.script;
      reason = is_trace _ _ _ c.in-Ok.ensures.whole fits (ap script_of (sym c.as_slice.ensures.value) ∙ c.in-Ok-parse.ensures.ok) write.2;
      leaves = c.in-Ok.ensures.drained;
      reads = c.in-Ok.ensures.quiet (λ h. cc);
      wrote = write.0;
      rose = write.1;
    }

pub returns-in-Err-NoPair-clause-ended : goal.returns-in-Err-NoPair-clause-ended
returns-in-Err-NoPair-clause-ended g c =
    let fits : length c.in-Ok.text.items ≤ SCRIPT_LIMIT =
    omega (arith, ap length c.as_slice.ensures.value, c.as_slice.ensures.len, c.in-Ok.ensures.fits) in
    let none = c.in-Err-NoPair.ensures.none (search rules) in
    record {
      lines = [];
      reason = (refl, refl, has_no_pair _ _ _ c.in-Ok.ensures.whole fits (ap script_of (sym c.as_slice.ensures.value) ∙ c.in-Ok-parse.ensures.ok) none.0);
      leaves = c.in-Ok.ensures.drained;
      reads = c.in-Ok.ensures.quiet (λ h. cc);
      wrote = none.1 ∙ appended-none _;
      quiet = c.in-Err-NoPair.ensures.quiet (λ h. cc);
    }

pub returns-in-Err-Memory-play_named-clause-ended : goal.returns-in-Err-Memory-play_named-clause-ended
returns-in-Err-Memory-play_named-clause-ended g c =
    let fits : length c.in-Ok.text.items ≤ SCRIPT_LIMIT =
    omega (arith, ap length c.as_slice.ensures.value, c.as_slice.ensures.len, c.in-Ok.ensures.fits) in
    let short = cut_short _ _ _ (played_named c.in-Ok-parse.script) _
    (λ pairs. is_trace _ _ _ c.in-Ok.ensures.whole fits (ap script_of (sym c.as_slice.ensures.value) ∙ c.in-Ok-parse.ensures.ok) pairs)
    (c.in-Err-Memory-play_named.ensures.memory (search rules)) in
    record {
      lines = short.lines;
      reason = short.reason;
      leaves = inr c.in-Ok.ensures.drained;
      reads = c.in-Ok.ensures.quiet (λ h. cc);
      wrote = short.wrote;
      quiet = c.in-Err-Memory-play_named.ensures.quiet (λ h. cc);
    }
