use Rattle.std.proofs.Common.{◌∙◌}
use Rattle.session_commands.specs.Checking.{found_lines, gate_lines}
use Rattle.command_lines.proofs.Pieces.{both_pieces, cut_in_first}
use Rattle.session_commands.proofs.checking.write_report.Goals as goal

pub returns-in-Err : goal.returns-in-Err
returns-in-Err g c = cut_in_first _ _ (gate_lines c.args.report) (found_lines c.args.report) _ _
    (c.as_bytes.ensures ∙ c.gate_lines.ensures) c.in-Err.ensures

pub returns-in-Ok : goal.returns-in-Ok
returns-in-Ok g c = both_pieces _ _ _ (gate_lines c.args.report) (found_lines c.args.report) _ _ _ _
    (c.as_bytes.ensures ∙ c.gate_lines.ensures) (c.as_bytes-in-Ok.ensures ∙ c.found_lines.ensures) c.in-Ok.ensures
    c.write_all-in-Ok.ensures
