use Rattle.dr_disk.specs.Spans.{IsQuiet}
use Rattle.dr_model.specs.Machines.Acts.{dropping}
use Rattle.command_lines.specs.Asking.{asked_drop}
use Rattle.command_lines.specs.Closing.{ending_by, lines_of_ending}
use Rattle.command_lines.proofs.Counting.{act_counts}
use Rattle.book_commands.specs.Places.{name_place}
use Rattle.book_commands.proofs.Codes.{missing_code}
use Rattle.book_commands.proofs.dropping.drop_items.Goals as goal

pub returns : goal.returns
returns g c =
    act_counts (name_place g.K.Kem.mechanism c.args.name.now) missing_code g.D.Disk.state g.K.Kem.mechanism c.args.disk.now
    c.open_and_drop-worked.new.disk (asked_drop (dropping c.args.which))
    (IsQuiet (g.D.Disk.state c.args.disk.now) (g.D.Disk.state c.open_and_drop-worked.new.disk))
    (λ kept act asks quiet. quiet) (g.O.Sink.at c.args.out.now) (g.O.Sink.at c.close.new.out) c.close.result.code
    (record {
      ending = ending_by c.open_and_drop-worked.result;
      lines = lines_of_ending c.open_and_drop-worked.result;
      came = c.open_and_drop-worked.ensures;
      ends = c.close.ensures.ends;
    }) c.close.ensures.later
