use Rattle.std.proofs.Common.{refl}
use Rattle.dr_base.specs.declared.position.Side.TheVariants.{First, Second}
use Rattle.command_lines.specs.KeysLines.{box_line}
use Rattle.command_lines.proofs.Pieces.{both_pieces, cut_in_first}
use Rattle.command_lines.proofs.keys.write_keys.Goals as goal

pub returns-in-Err : goal.returns-in-Err
returns-in-Err g c =
    let keys = c.args.keys.now in
    cut_in_first _ _ (box_line c.args.session.now First keys.first_owner keys.first_poster)
    (box_line c.args.session.now Second keys.second_owner keys.second_poster) _ _ refl c.in-Err.ensures

pub returns-in-Ok : goal.returns-in-Ok
returns-in-Ok g c =
    let keys = c.args.keys.now in
    both_pieces _ _ _ (box_line c.args.session.now First keys.first_owner keys.first_poster)
    (box_line c.args.session.now Second keys.second_owner keys.second_poster) _ _ _ _ refl refl c.in-Ok.ensures
    c.write_box.ensures
