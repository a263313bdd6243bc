use Rattle.std.proofs.Common.{get_or, length, arith}
use Rattle.std.proofs.lemmas.Option.{slice_get-get_or}
use Rattle.dr_base.specs.declared.position.Position.{Position}
use Rattle.dr_base.specs.Position.{position_at}
use Rattle.grammar.proofs.Putting.{puts_no_items, puts_next, room_next}
use Rattle.bodies.specs.Receipts.{position_bytes}
use Rattle.bodies.proofs.sealing.put_positions.Goals as goal

-- what an index past the end gives
abbrev nowhere : Position
nowhere = position_at 0 0

pub listed-init : goal.listed-init
listed-init c = puts_no_items position_bytes c.args.out.now c.args.at

pub put_position-next-requires : goal.put_position-next-requires
put_position-next-requires c =
    let list = c.args.list.now in
    let here = slice_get-get_or list c.listed.i nowhere c.listed-test.true in
    let room = room_next position_bytes list c.listed.i (get_or list c.listed.i nowhere) (length c.args.out.now) here c.listed.invariant c.requires in
    omega (arith, room, c.listed.auto.out)

pub listed-preserved : goal.listed-preserved
listed-preserved c =
    let list = c.args.list.now in
    let here = slice_get-get_or list c.listed.i nowhere c.listed-test.true in
    puts_next position_bytes list c.listed.i (get_or list c.listed.i nowhere) here c.listed.invariant c.put_position-next.ensures
