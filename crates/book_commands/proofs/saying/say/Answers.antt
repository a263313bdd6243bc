use Rattle.std.proofs.Common.{◌≡◌}
use Rattle.dr_disk.specs.Spans.{IsQuiet}
use Rattle.session_model.specs.Contents.{text_content}
use Rattle.command_lines.specs.Asking.{asked_say}
use Rattle.command_lines.specs.Closing.{ending_by, lines_of_ending}
use Rattle.command_lines.proofs.Counting.{act_counts, no_draw_failed}
use Rattle.book_commands.specs.Places.{name_place}
use Rattle.book_commands.proofs.Codes.{missing_code}
use Rattle.book_commands.proofs.saying.say.Goals as goal

pub returns : goal.returns
returns g c =
    act_counts (name_place g.K.Kem.mechanism c.args.name.now) missing_code g.D.Disk.state g.K.Kem.mechanism c.args.disk.now
    c.say_text-worked.new.disk (asked_say g.W.Draws.at c.args.text.now c.args.draws.now c.say_text-worked.new.draws)
    (IsQuiet (g.D.Disk.state c.args.disk.now) (g.D.Disk.state c.say_text-worked.new.disk)
    × ((g.W.Draws.at c.say_text-worked.new.draws).faults ≡ (g.W.Draws.at c.args.draws.now).faults))
    (λ kept act asks quiet.
    (quiet, no_draw_failed g.W.Draws.at (text_content c.args.text.now) c.args.draws.now c.say_text-worked.new.draws kept act asks))
    (g.O.Sink.at c.args.out.now) (g.O.Sink.at c.close.new.out) c.close.result.code
    (record {
      ending = ending_by c.say_text-worked.result;
      lines = lines_of_ending c.say_text-worked.result;
      came = c.say_text-worked.ensures;
      ends = c.close.ensures.ends;
    }) c.close.ensures.later
