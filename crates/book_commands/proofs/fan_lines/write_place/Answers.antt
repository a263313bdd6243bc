use Rattle.std.specs.Prelude.{codes}
use Rattle.answer_lines.specs.Texts.{place_line}
use Rattle.command_lines.proofs.Pieces.{both_pieces, cut_in_first}
use Rattle.std.proofs.Common.{◌∙◌}
use Rattle.book_commands.proofs.fan_lines.write_place.Goals as goal

pub returns-in-Err : goal.returns-in-Err
returns-in-Err g c =
    cut_in_first _ _ c.args.name.now (place_line (codes " ") c.args.position) _ _ c.as_bytes.ensures.value c.in-Err.ensures

pub returns-in-Ok : goal.returns-in-Ok
returns-in-Ok g c =
    both_pieces _ _ _ c.args.name.now (place_line (codes " ") c.args.position) _ _ _ _ c.as_bytes.ensures.value
    (c.as_bytes-in-Ok.ensures ∙ c.place_line.ensures) c.in-Ok.ensures c.write_all-in-Ok.ensures
