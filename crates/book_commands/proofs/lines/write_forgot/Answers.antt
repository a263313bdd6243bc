use Rattle.std.proofs.Common.{refl, ◌++◌}
use Rattle.std.specs.Prelude.{codes}
use Rattle.command_lines.proofs.Pieces.{both_pieces, cut_in_first}
use Rattle.book_commands.specs.Forgetting.{forgot_line}
use Rattle.book_commands.proofs.lines.write_forgot.Goals as goal

pub returns-in-Err : goal.returns-in-Err
unfolding forgot_line
returns-in-Err g c = cut_in_first _ _ (codes "forgot ") (c.args.name.now ++ codes "\n") _ _ refl c.in-Err.ensures

pub returns-in-Ok : goal.returns-in-Ok
unfolding forgot_line
returns-in-Ok g c =
    both_pieces _ _ _ (codes "forgot ") (c.args.name.now ++ codes "\n") _ _ _ _ refl refl c.in-Ok.ensures c.write_name.ensures
