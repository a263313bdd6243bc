use Rattle.std.proofs.Common.{ap, arith, length, subst, take, take_all, ◌+◌, ◌-◌, ◌∙◌, ◌≡◌, ◌≤◌}
use Rattle.std.specs.Prelude.{flat_map}
use Rattle.dr_ports.specs.Ports.{appended}
use Rattle.answer_lines.specs.Texts.{escaped}
use Rattle.answer_lines.proofs.Pieces.{cut_in_piece, took_piece}
use Rattle.answer_lines.proofs.longs.write_text.Goals as goal

pub returns-in-Err : goal.returns-in-Err
returns-in-Err g c =
    let size = c.min-size.result in
    cut_in_piece escaped c.args.text.now c.pieces.done ((c.pieces.done + size) - c.pieces.done) (g.O.Sink.at c.args.out.now)
    (g.O.Sink.at c.pieces.out) (g.O.Sink.at c.write_piece.new.out) _ c.pieces.invariant.written c.pieces.invariant.quiet
    c.in-Err.ensures

pub pieces-preserved : goal.pieces-preserved
pieces-preserved g c =
    let size = c.min-size.result in
    let same : c.pieces.done + ((c.pieces.done + size) - c.pieces.done) ≡ c.pieces.done + size = omega arith in
    let writes = c.in-Ok.ensures in
    record {
      within = omega (arith, c.min-size.ensures, c.pieces-test.true);
      written =
          subst
          (λ n. (g.O.Sink.at c.write_piece.new.out).taken ≡ appended (g.O.Sink.at c.args.out.now).taken (flat_map escaped (take n c.args.text.now)))
          same
          (took_piece escaped c.args.text.now c.pieces.done ((c.pieces.done + size) - c.pieces.done) (g.O.Sink.at c.args.out.now).taken
          (g.O.Sink.at c.pieces.out).taken (g.O.Sink.at c.write_piece.new.out).taken c.pieces.invariant.written writes.whole);
      quiet = writes.cause.passed ∙ c.pieces.invariant.quiet;
    }

pub returns : goal.returns
returns g c =
    let all : length c.args.text.now ≤ c.pieces.done = omega (arith, c.pieces-test.false) in
    record {
      whole =
          c.pieces.invariant.written
          ∙ ap (λ text. appended (g.O.Sink.at c.args.out.now).taken (flat_map escaped text)) (take_all c.pieces.done c.args.text.now all);
      part = tt;
      cause = record { later = omega (arith, c.pieces.invariant.quiet); failed = tt; passed = c.pieces.invariant.quiet };
    }
