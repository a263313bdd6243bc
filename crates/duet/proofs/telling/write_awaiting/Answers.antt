use Rattle.std.proofs.Common.{◌<◌, ◌≤◌, length, take_all, arith, ◌∙◌, ap}
use Rattle.std.specs.Prelude.{flat_map}
use Rattle.dr_base.specs.Position.{position_at}
use Rattle.dr_base.specs.declared.position.Position.{Position}
use Rattle.dr_ports.specs.Ports.{appended}
use Rattle.answer_lines.proofs.Items.{took_line, cut_in_lines}
use Rattle.duet.specs.Replies.{waiting_line}
use Rattle.duet.proofs.telling.write_awaiting.Goals as goal

-- what a place past the end gives
abbrev some : Position
some = position_at 0 0

pub returns-in-Err : goal.returns-in-Err
returns-in-Err g c =
    let below : c.texts.at < length c.args.party.now.kept.state.awaiting = omega (arith, c.waiting-at-end.ensures) in
    cut_in_lines (waiting_line c.args.side) _ _ _ c.args.party.now.kept.state.awaiting c.texts.at some _ below c.texts.invariant.written c.texts.invariant.quiet (c.in-Err.ensures some)

pub texts-preserved : goal.texts-preserved
texts-preserved g c =
    let below : c.texts.at < length c.args.party.now.kept.state.awaiting = omega (arith, c.waiting-at-end.ensures) in
    let writes = c.in-Ok.ensures some in
    record {
      written = took_line (waiting_line c.args.side) _ _ _ c.args.party.now.kept.state.awaiting c.texts.at some below c.texts.invariant.written writes.whole;
      quiet = writes.cause.passed ∙ c.texts.invariant.quiet;
    }

pub returns : goal.returns
returns g c =
    let all : length c.args.party.now.kept.state.awaiting ≤ c.texts.at = omega (arith, c.waiting-at-end.ensures) in
    record {
      whole = c.texts.invariant.written ∙ ap (λ items. appended (g.O.Sink.at c.args.out.now).taken (flat_map (waiting_line c.args.side) items)) (take_all c.texts.at c.args.party.now.kept.state.awaiting all);
      part = tt;
      cause = record { later = omega (arith, c.texts.invariant.quiet); failed = tt; passed = c.texts.invariant.quiet };
    }
