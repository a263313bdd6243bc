use Rattle.command_lines.specs.Closing.{ending_by, lines_of_ending}
use Rattle.command_lines.proofs.Counting.{take_counts}
use Rattle.session_commands.specs.Disks.{client_place}
use Rattle.session_commands.proofs.Quiet.{open_code}
use Rattle.session_commands.proofs.taking.take.Goals as goal

pub returns-clause-runs : goal.returns-clause-runs
returns-clause-runs g c =
    take_counts (client_place g.K.Kem.mechanism) open_code g.D.Disk.state g.K.Kem.mechanism c.args.disk.now
    c.read_and_take-worked.new.disk (g.S.Source.at c.args.source.now) (g.S.Source.at c.read_and_take-worked.new.source)
    (g.O.Sink.at c.args.out.now) (g.O.Sink.at c.close.new.out) c.close.result.code
    (record {
      ending = ending_by c.read_and_take-worked.result;
      lines = lines_of_ending c.read_and_take-worked.result;
      came = c.read_and_take-worked.ensures.runs;
      ends = c.close.ensures.ends;
    }) c.close.ensures.later
