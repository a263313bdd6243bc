use Rattle.std.proofs.Common.{◌≡◌, Some, sym, arith, length}
use Rattle.std.specs.List.{slice_get}
use Rattle.boxes.specs.Seen.{entry_seen}
use Rattle.grammar.proofs.Putting.{puts_no_items, puts_next, room_next}
use Rattle.session_record.specs.Changes.{other_text}
use Rattle.session_record.proofs.others.put_each_other.Goals as goal

pub entries-init : goal.entries-init
entries-init c = puts_no_items (other_text c.args.id) c.args.out.now c.args.at

pub put_other-next-requires-clause-room : goal.put_other-next-requires-clause-room
put_other-next-requires-clause-room c =
    let entry = entry_seen c.in-Some.entry in
    let here : slice_get c.args.inbox.now c.entries.i ≡ Some entry = sym c.in-Some.ensures.entry in
    let room = room_next (other_text c.args.id) c.args.inbox.now c.entries.i entry (length c.args.out.now) here c.entries.invariant c.requires in
    omega (arith, room, c.entries.auto.out)

pub entries-preserved : goal.entries-preserved
entries-preserved c =
    let entry = entry_seen c.in-Some.entry in
    let here : slice_get c.args.inbox.now c.entries.i ≡ Some entry = sym c.in-Some.ensures.entry in
    puts_next (other_text c.args.id) c.args.inbox.now c.entries.i entry here c.entries.invariant c.put_other-next.ensures
