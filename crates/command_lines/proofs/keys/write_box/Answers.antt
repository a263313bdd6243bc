use Rattle.std.proofs.Common.{◌∙◌}
use Rattle.command_lines.specs.KeysLines.{owner_text, poster_text}
use Rattle.command_lines.proofs.Pieces.{both_pieces, cut_in_first}
use Rattle.command_lines.proofs.keys.write_box.Goals as goal

pub returns-in-Err : goal.returns-in-Err
returns-in-Err g c =
    cut_in_first _ _ (owner_text c.args.session.now c.args.side c.args.owner.now) (poster_text c.args.poster.now) _ _
    (c.as_bytes.ensures ∙ c.owner_text.ensures) c.in-Err.ensures

pub returns-in-Ok : goal.returns-in-Ok
returns-in-Ok g c =
    both_pieces _ _ _ (owner_text c.args.session.now c.args.side c.args.owner.now) (poster_text c.args.poster.now) _ _ _ _
    (c.as_bytes.ensures ∙ c.owner_text.ensures) (c.as_bytes-in-Ok.ensures ∙ c.poster_text.ensures) c.in-Ok.ensures
    c.write_all-in-Ok.ensures
