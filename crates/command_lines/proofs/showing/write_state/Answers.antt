use Rattle.std.proofs.Common.{◌∙◌}
use Rattle.command_lines.specs.Lines.{count_lines, name_lines}
use Rattle.command_lines.proofs.Pieces.{both_pieces, cut_in_first}
use Rattle.command_lines.proofs.showing.write_state.Goals as goal

pub returns-in-Err : goal.returns-in-Err
returns-in-Err g c =
    cut_in_first _ _ (name_lines c.args.core.now) (count_lines c.args.core.now) _ _
    (c.as_bytes.ensures ∙ c.name_lines.ensures) c.in-Err.ensures

pub returns-in-Ok : goal.returns-in-Ok
returns-in-Ok g c =
    both_pieces _ _ _ (name_lines c.args.core.now) (count_lines c.args.core.now) _ _ _ _
    (c.as_bytes.ensures ∙ c.name_lines.ensures) (c.as_bytes-in-Ok.ensures ∙ c.count_lines.ensures) c.in-Ok.ensures
    c.write_all-in-Ok.ensures
