use Rattle.std.proofs.Common.{sym, ◌∙◌, ap, length, ℕ, List}
use Rattle.slot_store.specs.declared.report.Finding.TheVariants.{Record}
use Rattle.slot_store.specs.Reading.{reading_of}
use Rattle.slot_store.specs.Reports.{finding_of}
use Rattle.slot_store.proofs.Wipings.Settled.{has_none, has_text}
use Rattle.slot_store.proofs.inspecting.finding.Goals as goal

pub returns-then-pager-eq0 : goal.returns-then-pager-eq0
returns-then-pager-eq0 c = sym (ap (λ o. finding_of (reading_of o)) (has_none c.args.pager.now c.if-pager-eq0.true))

pub returns : goal.returns
returns c = ap (λ (l : List ℕ). Record (length l)) c.text.ensures
    ∙ sym (ap (λ o. finding_of (reading_of o)) (has_text c.args.pager.now c.if-pager-eq0.false))
