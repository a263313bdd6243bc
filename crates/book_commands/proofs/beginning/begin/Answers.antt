use Rattle.std.proofs.Common.{[], subst}
use Rattle.endings.specs.Ends.{Ends}
use Rattle.endings.specs.declared.ending.Ending.TheVariants.{Done}
use Rattle.book_commands.proofs.Counted.{begin_counts}
use Rattle.book_commands.proofs.beginning.begin.Goals as goal

pub returns-in-Err-clause-runs : goal.returns-in-Err-clause-runs
returns-in-Err-clause-runs g c =
    begin_counts g.D.Disk.state g.K.Kem.mechanism c.args.disk.now c.read_and_begin.new.disk c.args.name.now c.args.side
    c.args.format (g.S.Source.at c.args.source.now) (g.S.Source.at c.read_and_begin.new.source)
    (g.O.Sink.at c.args.out.now) (g.O.Sink.at c.finish.new.out) c.finish.result.code
    (record { ending = c.in-Err.ending; lines = []; came = c.in-Err.ensures.runs; ends = c.finish.ensures.ends })
    c.finish.ensures.later

pub returns-in-Ok-clause-runs : goal.returns-in-Ok-clause-runs
returns-in-Ok-clause-runs g c =
    begin_counts g.D.Disk.state g.K.Kem.mechanism c.args.disk.now c.read_and_begin.new.disk c.args.name.now c.args.side
    c.args.format (g.S.Source.at c.args.source.now) (g.S.Source.at c.read_and_begin.new.source)
    (g.O.Sink.at c.args.out.now) (g.O.Sink.at c.finish_with.new.out) c.finish_with.result.code
    (record {
      ending = Done;
      lines = c.in-Ok.line;
      came = c.in-Ok.ensures.runs;
      ends =
          subst
          (λ lines. Ends Done lines (g.O.Sink.at c.args.out.now) (g.O.Sink.at c.finish_with.new.out) c.finish_with.result.code)
          c.as_bytes.ensures c.finish_with.ensures.ends;
    }) c.finish_with.ensures.later
