use Rattle.std.proofs.Common.{◌≡◌, ◌≤◌, [], ◌∷◌, ◌+◌, Some, length, sym, ap, ◌∙◌, List, arith}
use Rattle.std.specs.List.{slice_get}
use Rattle.std.proofs.lemmas.List.{take_all}
use Rattle.boxes.specs.Entries.{Entry}
use Rattle.boxes.specs.Seen.{entry_seen}
use Rattle.session_model.specs.Leaving.{left_in_inbox}
use Rattle.session_model.specs.declared.answer.Which.TheVariants.{OfId}
use Rattle.session_model.proofs.Leaving.{fewer_texts}
use Rattle.session_record.proofs.OtherTexts.{left_next}
use Rattle.session_record.proofs.others.others_count.Goals as goal

pub entries-preserved : goal.entries-preserved
entries-preserved c =
    let entry = entry_seen c.in-Some.entry in
    let here : slice_get c.args.inbox.now c.entries.i ≡ Some entry = sym c.in-Some.ensures.entry in
    let next = left_next c.args.id c.args.inbox.now c.entries.i entry here in
    let one : length (left_in_inbox (OfId c.args.id) (entry ∷ [])) ≤ 1 = fewer_texts (OfId c.args.id) (entry ∷ []) in (
      omega (arith, next, c.entries.invariant.0, c.count_other-count.ensures),
      omega (arith, one, c.entries.invariant.1, c.count_other-count.ensures),
    )

pub returns-clause-value : goal.returns-clause-value
returns-clause-value c =
    c.entries.invariant.0
    ∙ ap (λ (list : List Entry). length (left_in_inbox (OfId c.args.id) list)) (take_all c.entries.i c.args.inbox.now (omega (arith, c.len-i-end.ensures.value)))
