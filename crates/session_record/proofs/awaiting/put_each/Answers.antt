use Rattle.std.proofs.Common.{get_or, length, arith}
use Rattle.std.proofs.lemmas.Option.{slice_get-get_or}
use Rattle.bodies.specs.Receipts.{position_bytes}
use Rattle.dr_base.specs.Position.{position_at}
use Rattle.grammar.proofs.Putting.{puts_no_items, puts_next, room_next}
use Rattle.session_record.proofs.awaiting.put_each.Goals as goal

pub positions-init : goal.positions-init
positions-init c = puts_no_items position_bytes c.args.out.now c.args.at

pub put_one-next-requires : goal.put_one-next-requires
put_one-next-requires c =
    let list = c.args.positions.now in
    let position = get_or list c.positions.i (position_at 0 0) in
    let here = slice_get-get_or list c.positions.i (position_at 0 0) c.positions-test.true in
    let room = room_next position_bytes list c.positions.i position (length c.args.out.now) here c.positions.invariant c.requires in
    omega (arith, room, c.positions.auto.out)

pub positions-preserved : goal.positions-preserved
positions-preserved c =
    let list = c.args.positions.now in
    let here = slice_get-get_or list c.positions.i (position_at 0 0) c.positions-test.true in
    puts_next position_bytes list c.positions.i (get_or list c.positions.i (position_at 0 0)) here c.positions.invariant c.put_one-next.ensures
