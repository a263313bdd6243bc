use Rattle.std.proofs.Common.{None, ap, arith, length, take_all, ◌<◌, ◌≤◌, ◌∙◌}
use Rattle.std.specs.Prelude.{flat_map}
use Rattle.dr_ports.specs.Ports.{appended}
use Rattle.answer_lines.proofs.Items.{cut_in_lines, took_line}
use Rattle.book_commands.specs.Listing.{row_line}
use Rattle.book_commands.proofs.listing.write_names.Goals as goal

pub returns-in-Err : goal.returns-in-Err
returns-in-Err g c =
    let below : c.rows.row < length c.args.book.now.rows = omega (arith, c.requires) in
    cut_in_lines row_line _ _ _ c.args.book.now.rows c.rows.row None _ below c.rows.invariant.written
    c.rows.invariant.quiet c.in-Err.ensures

pub rows-preserved : goal.rows-preserved
rows-preserved g c =
    let below : c.rows.row < length c.args.book.now.rows = omega (arith, c.requires) in
    record {
      written = took_line row_line _ _ _ c.args.book.now.rows c.rows.row None below c.rows.invariant.written c.in-Ok.ensures.whole;
      quiet = c.in-Ok.ensures.cause.passed ∙ c.rows.invariant.quiet;
    }

pub returns : goal.returns
returns g c =
    let all : length c.args.book.now.rows ≤ c.rows.row = omega (arith, c.requires) in
    record {
      whole =
          c.rows.invariant.written
          ∙ ap (λ rows. appended (g.O.Sink.at c.args.out.now).taken (flat_map row_line rows))
          (take_all c.rows.row c.args.book.now.rows all);
      part = tt;
      cause = record { later = omega (arith, c.rows.invariant.quiet); failed = tt; passed = c.rows.invariant.quiet };
    }
