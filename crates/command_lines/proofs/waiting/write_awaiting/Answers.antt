use Rattle.std.proofs.Common.{[], length, refl, ◌∙◌}
use Rattle.std.specs.Prelude.{codes, flat_map}
use Rattle.answer_lines.specs.Texts.{place_line}
use Rattle.command_lines.specs.Lines.{count_line}
use Rattle.command_lines.proofs.Pieces.{both_pieces, cut_in_first}
use Rattle.command_lines.proofs.waiting.write_awaiting.Goals as goal

pub returns-in-Err : goal.returns-in-Err
returns-in-Err g c =
    let waiting = c.args.core.now.state.awaiting in
    cut_in_first _ _ (count_line (codes "awaiting ") (length waiting)) (flat_map (place_line []) waiting) _ _
    (c.as_bytes.ensures ∙ c.waiting_line.ensures) c.in-Err.ensures

pub returns-in-Ok : goal.returns-in-Ok
returns-in-Ok g c =
    let waiting = c.args.core.now.state.awaiting in
    both_pieces _ _ _ (count_line (codes "awaiting ") (length waiting)) (flat_map (place_line []) waiting) _ _ _ _
    (c.as_bytes.ensures ∙ c.waiting_line.ensures) refl c.in-Ok.ensures c.write_places.ensures
