use Rattle.std.proofs.Common.{refl}
use Rattle.std.specs.Prelude.{codes}
use Rattle.command_lines.proofs.Pieces.{both_pieces, cut_in_first}
use Rattle.book_commands.proofs.lines.write_name.Goals as goal

pub returns-in-Err : goal.returns-in-Err
returns-in-Err g c = cut_in_first _ _ c.args.name.now (codes "\n") _ _ c.as_bytes.ensures.value c.in-Err.ensures

pub returns-in-Ok : goal.returns-in-Ok
returns-in-Ok g c =
    both_pieces _ _ _ c.args.name.now (codes "\n") _ _ _ _ c.as_bytes.ensures.value refl c.in-Ok.ensures c.write_all-in-Ok.ensures
