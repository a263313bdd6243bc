use Rattle.std.proofs.Common.{[], ap, arith, length, take_all, ◌<◌, ◌≤◌, ◌∙◌}
use Rattle.std.specs.Prelude.{flat_map}
use Rattle.dr_base.specs.Position.{position_at}
use Rattle.dr_base.specs.declared.position.Position.{Position}
use Rattle.dr_ports.specs.Ports.{appended}
use Rattle.answer_lines.specs.Texts.{place_line}
use Rattle.answer_lines.proofs.Items.{cut_in_lines, took_line}
use Rattle.command_lines.proofs.waiting.write_places.Goals as goal

-- what a place past the end gives
abbrev some : Position
some = position_at 0 0

pub write_place-requires : goal.write_place-requires
write_place-requires g c = omega (arith, c.waiting-at-end.ensures)

pub returns-in-Err : goal.returns-in-Err
returns-in-Err g c =
    let below : c.texts.at < length c.args.core.now.state.awaiting =
    omega (arith, c.waiting-at-end.ensures) in
    cut_in_lines (place_line []) _ _ _ c.args.core.now.state.awaiting c.texts.at some _ below c.texts.invariant.written
    c.texts.invariant.quiet (c.in-Err.ensures some)

pub texts-preserved : goal.texts-preserved
texts-preserved g c =
    let below : c.texts.at < length c.args.core.now.state.awaiting =
    omega (arith, c.waiting-at-end.ensures) in
    let writes = c.in-Ok.ensures some in
    record {
      written = took_line (place_line []) _ _ _ c.args.core.now.state.awaiting c.texts.at some below c.texts.invariant.written writes.whole;
      quiet = writes.cause.passed ∙ c.texts.invariant.quiet;
    }

pub returns : goal.returns
returns g c =
    let all : length c.args.core.now.state.awaiting ≤ c.texts.at =
    omega (arith, c.waiting-at-end.ensures) in
    record {
      whole =
          c.texts.invariant.written
          ∙ ap (λ places. appended (g.O.Sink.at c.args.out.now).taken (flat_map (place_line []) places)) (take_all c.texts.at c.args.core.now.state.awaiting all);
      part = tt;
      cause = record { later = omega (arith, c.texts.invariant.quiet); failed = tt; passed = c.texts.invariant.quiet };
    }
