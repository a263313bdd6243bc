use Rattle.std.proofs.Common.{refl, ◌++◌}
use Rattle.std.specs.Prelude.{codes}
use Rattle.answer_lines.specs.Texts.{place_line}
use Rattle.command_lines.proofs.Pieces.{both_pieces, cut_in_first}
use Rattle.book_commands.specs.FanLines.{said_line}
use Rattle.book_commands.proofs.fan_lines.write_said.Goals as goal

pub returns-in-Err : goal.returns-in-Err
unfolding said_line
returns-in-Err g c =
    cut_in_first _ _ (codes "said ") (c.args.name.now ++ place_line (codes " ") c.args.position) _ _ refl c.in-Err.ensures

pub returns-in-Ok : goal.returns-in-Ok
unfolding said_line
returns-in-Ok g c =
    both_pieces _ _ _ (codes "said ") (c.args.name.now ++ place_line (codes " ") c.args.position) _ _ _ _ refl refl
    c.in-Ok.ensures c.write_place.ensures
