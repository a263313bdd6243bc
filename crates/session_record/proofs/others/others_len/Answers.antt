use Rattle.std.proofs.Common.{◌≡◌, Some, length, sym, ap, ◌∙◌, take, List, ℕ, arith}
use Rattle.std.specs.List.{slice_get}
use Rattle.std.proofs.lemmas.List.{take_all}
use Rattle.boxes.specs.Entries.{Entry}
use Rattle.boxes.specs.Seen.{entry_seen}
use Rattle.grammar.specs.Printer.{print_items}
use Rattle.grammar.proofs.Printing.{print-none}
use Rattle.session_record.specs.Changes.{other_text}
use Rattle.session_record.proofs.OtherTexts.{others_text}
use Rattle.session_record.proofs.Sizes.{size_next}
use Rattle.session_record.proofs.others.others_len.Goals as goal

pub entries-init : goal.entries-init
entries-init c = rw (print-none (other_text c.args.id)) (omega arith, omega arith)

pub entries-preserved : goal.entries-preserved
entries-preserved c =
    let entry = entry_seen c.in-Some.entry in
    let here : slice_get c.args.inbox.now c.entries.i ≡ Some entry = sym c.in-Some.ensures.entry in (
      omega (arith, size_next (other_text c.args.id) c.args.inbox.now c.entries.i entry c.entries.sum here c.entries.invariant.0, c.other_len-sum.ensures.len),
      omega (arith, c.entries.invariant.1, c.other_len-sum.ensures.limit),
    )

pub returns-clause-len : goal.returns-clause-len
returns-clause-len c =
    let all = take_all c.entries.i c.args.inbox.now (omega (arith, c.len-i-end.ensures.value)) in
    c.entries.invariant.0 ∙ ap (λ (list : List Entry). length (print_items (other_text c.args.id) list)) all
    ∙ ap (λ (l : List ℕ). length l) (others_text c.args.id c.args.inbox.now)
