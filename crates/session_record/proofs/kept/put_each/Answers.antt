use Rattle.std.proofs.Common.{[], get_or, length, arith}
use Rattle.std.proofs.lemmas.Option.{slice_get-get_or}
use Rattle.dr_base.specs.declared.key.Kept.{Kept}
use Rattle.grammar.proofs.Putting.{puts_no_items, puts_next, room_next}
use Rattle.session_record.specs.Lists.{kept_text}
use Rattle.dr_base.specs.Position.{position_at}
use Rattle.session_record.proofs.kept.put_each.Goals as goal

-- what an index past the end gives
abbrev no_key : Kept
no_key = record { position = position_at 0 0; key = record { bytes = [] } }

pub keys-init : goal.keys-init
keys-init c = puts_no_items kept_text c.args.out.now c.args.at

pub put_one-next-requires : goal.put_one-next-requires
put_one-next-requires c =
    let list = c.args.keys.now in
    let kept = get_or list c.keys.i no_key in
    let here = slice_get-get_or list c.keys.i no_key c.keys-test.true in
    let room = room_next kept_text list c.keys.i kept (length c.args.out.now) here c.keys.invariant c.requires in
    omega (arith, room, c.keys.auto.out)

pub keys-preserved : goal.keys-preserved
keys-preserved c =
    let list = c.args.keys.now in
    let here = slice_get-get_or list c.keys.i no_key c.keys-test.true in
    puts_next kept_text list c.keys.i (get_or list c.keys.i no_key) here c.keys.invariant c.put_one-next.ensures
