use Rattle.std.proofs.Common.{◌≡◌, drop, Some, sym, arith}
use Rattle.std.specs.List.{slice_get}
use Rattle.boxes.specs.Seen.{entry_seen}
use Rattle.grammar.proofs.Printing.{print-none, slice_get-drop}
use Rattle.session_record.specs.Lists.{entry_text}
use Rattle.session_record.specs.Versions.{newest}
use Rattle.session_record.proofs.Sizes.{size_next}
use Rattle.session_record.proofs.lengths.entries_len.Goals as goal

pub entries-init : goal.entries-init
entries-init c = rw (print-none (entry_text newest)) (omega arith, omega arith)

pub entries-preserved : goal.entries-preserved
entries-preserved c =
    let list = drop c.args.from c.args.inbox.now in
    let entry = entry_seen c.in-Some.entry in
    let here : slice_get list c.entries.i ≡ Some entry = slice_get-drop c.args.inbox.now c.args.from c.entries.i entry (sym c.in-Some.ensures.entry) in (
      omega (arith, size_next (entry_text newest) list c.entries.i entry c.entries.sum here c.entries.invariant.0),
      omega (arith, c.entries.invariant.1, c.in-Some.ensures.fits),
    )
