use Rattle.std.proofs.Common.{ap, arith, length, ◌<◌, ◌∙◌, ◌≡◌}
use Rattle.dr_ports.specs.Ports.{appended}
use Rattle.book_commands.proofs.FanWritten.{cut_in_one, lines, took_one}
use Rattle.book_commands.proofs.fan_lines.write_all_said.Goals as goal

pub returns-in-Err : goal.returns-in-Err
returns-in-Err g c =
    let lt : c.names.i < length c.args.names.now = omega (arith, c.names-test.true) in
    cut_in_one c.args.book.now.rows c.args.names.now c.args.list.now _ _ _ c.names.i _ lt
    c.names.invariant.written c.names.invariant.quiet c.in-Err.ensures

pub names-preserved : goal.names-preserved
names-preserved g c =
    let lt : c.names.i < length c.args.names.now = omega (arith, c.names-test.true) in
    record {
      written = took_one c.args.book.now.rows c.args.names.now c.args.list.now _ _ _ c.names.i lt
          c.names.invariant.written c.in-Ok.ensures.whole;
      quiet = c.in-Ok.ensures.cause.passed ∙ c.names.invariant.quiet;
    }

pub returns : goal.returns
returns g c =
    let end : c.names.i ≡ length c.args.names.now = omega (arith, c.names-test.false) in
    record {
      whole = c.names.invariant.written
          ∙ ap (λ n. appended (g.O.Sink.at c.args.out.now).taken
          (lines c.args.book.now.rows c.args.names.now c.args.list.now n)) end;
      part = tt;
      cause = record { later = omega (arith, c.names.invariant.quiet); failed = tt; passed = c.names.invariant.quiet };
    }
