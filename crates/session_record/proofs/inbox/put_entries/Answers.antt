use Rattle.std.proofs.Common.{◌≡◌, drop, Some, sym, arith, length}
use Rattle.std.specs.List.{slice_get}
use Rattle.boxes.specs.Seen.{entry_seen}
use Rattle.grammar.proofs.Printing.{slice_get-drop}
use Rattle.grammar.proofs.Putting.{puts_no_items, puts_next, room_next}
use Rattle.session_record.specs.Lists.{entry_text}
use Rattle.session_record.specs.Versions.{newest}
use Rattle.session_record.proofs.inbox.put_entries.Goals as goal

pub entries-init : goal.entries-init
entries-init c = puts_no_items (entry_text newest) c.args.out.now c.args.at

pub put_entry-next-requires-clause-room : goal.put_entry-next-requires-clause-room
put_entry-next-requires-clause-room c =
    let list = drop c.args.from c.args.inbox.now in
    let entry = entry_seen c.in-Some.entry in
    let here : slice_get list c.entries.i ≡ Some entry = slice_get-drop c.args.inbox.now c.args.from c.entries.i entry (sym c.in-Some.ensures.entry) in
    let room = room_next (entry_text newest) list c.entries.i entry (length c.args.out.now) here c.entries.invariant c.requires.room in
    omega (arith, room, c.entries.auto.out)

pub entries-preserved : goal.entries-preserved
entries-preserved c =
    let list = drop c.args.from c.args.inbox.now in
    let entry = entry_seen c.in-Some.entry in
    let here : slice_get list c.entries.i ≡ Some entry = slice_get-drop c.args.inbox.now c.args.from c.entries.i entry (sym c.in-Some.ensures.entry) in
    puts_next (entry_text newest) list c.entries.i entry here c.entries.invariant c.put_entry-next.ensures
