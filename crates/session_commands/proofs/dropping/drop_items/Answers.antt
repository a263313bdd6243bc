use Rattle.dr_disk.specs.Spans.{IsQuiet}
use Rattle.dr_model.specs.Machines.Acts.{dropping}
use Rattle.command_lines.specs.Asking.{asked_drop}
use Rattle.command_lines.specs.Closing.{ending_by, lines_of_ending}
use Rattle.command_lines.proofs.Counting.{act_counts}
use Rattle.session_commands.specs.Disks.{client_place}
use Rattle.session_commands.proofs.Quiet.{open_code}
use Rattle.session_commands.proofs.dropping.drop_items.Goals as goal

pub returns : goal.returns
returns g c =
    act_counts (client_place g.K.Kem.mechanism) open_code g.D.Disk.state g.K.Kem.mechanism c.args.disk.now
    c.open_and_drop-worked.new.disk (asked_drop (dropping c.args.which))
    (IsQuiet (g.D.Disk.state c.args.disk.now) (g.D.Disk.state c.open_and_drop-worked.new.disk))
    (λ kept act asks quiet. quiet) (g.O.Sink.at c.args.out.now) (g.O.Sink.at c.close.new.out) c.close.result.code
    (record {
      ending = ending_by c.open_and_drop-worked.result;
      lines = lines_of_ending c.open_and_drop-worked.result;
      came = c.open_and_drop-worked.ensures;
      ends = c.close.ensures.ends;
    }) c.close.ensures.later
