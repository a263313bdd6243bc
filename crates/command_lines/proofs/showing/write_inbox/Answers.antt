use Rattle.std.proofs.Common.{[], ap, arith, length, take_all, ◌<◌, ◌≤◌, ◌∙◌}
use Rattle.std.specs.Prelude.{flat_map}
use Rattle.boxes.specs.Entries.{Entry, entry_under}
use Rattle.dr_ports.specs.Ports.{appended}
use Rattle.session_model.specs.declared.answer.Summary.{Summary}
use Rattle.answer_lines.specs.Texts.{content_line}
use Rattle.answer_lines.proofs.Items.{cut_in_lines, took_line}
use Rattle.command_lines.proofs.showing.write_inbox.Goals as goal

-- what a place past the end gives
abbrev some : Entry
some = entry_under (record { epoch = 0; index = 0 }) []

pub write_entry-requires : goal.write_entry-requires
write_entry-requires g c = omega (arith, ap (λ (s : Summary). s.inbox) c.state-at-end.ensures)

pub returns-in-Err : goal.returns-in-Err
returns-in-Err g c =
    let below : c.texts.at < length c.args.core.now.inbox =
    omega (arith, ap (λ (s : Summary). s.inbox) c.state-at-end.ensures) in
    cut_in_lines (content_line []) _ _ _ c.args.core.now.inbox c.texts.at some _ below c.texts.invariant.written
    c.texts.invariant.quiet (c.in-Err.ensures some)

pub texts-preserved : goal.texts-preserved
texts-preserved g c =
    let below : c.texts.at < length c.args.core.now.inbox =
    omega (arith, ap (λ (s : Summary). s.inbox) c.state-at-end.ensures) in
    let writes = c.in-Ok.ensures some in
    record {
      written = took_line (content_line []) _ _ _ c.args.core.now.inbox c.texts.at some below c.texts.invariant.written writes.whole;
      quiet = writes.cause.passed ∙ c.texts.invariant.quiet;
    }

pub returns : goal.returns
returns g c =
    let all : length c.args.core.now.inbox ≤ c.texts.at =
    omega (arith, ap (λ (s : Summary). s.inbox) c.state-at-end.ensures) in
    record {
      whole =
          c.texts.invariant.written
          ∙ ap (λ entries. appended (g.O.Sink.at c.args.out.now).taken (flat_map (content_line []) entries)) (take_all c.texts.at c.args.core.now.inbox all);
      part = tt;
      cause = record { later = omega (arith, c.texts.invariant.quiet); failed = tt; passed = c.texts.invariant.quiet };
    }
