use Rattle.std.proofs.Common.{Option, Some, List, ℕ, take, subst, arith, ap, ◌∙◌, ◌≡◌}
use Rattle.std.proofs.lemmas.List.{with_items_is}
use Rattle.dr_disk.specs.Spans.{Span}
use Rattle.dr_disk.specs.State.{DiskState}
use Rattle.std.proofs.lemmas.Grind.{common_steps}
use Rattle.slot_store.specs.Areas.{Area, HasRecordMemory}
use Rattle.slot_store.specs.Store.{IsOldOrNew}
use Rattle.client.proofs.beginning.first.Goals as goal

moved : (a b : Area) (o p : Option (List ℕ)) (t u : List ℕ) (start now : DiskState) → a ≡ b → o ≡ p → t ≡ u
    → Span start now (IsOldOrNew start a o (Some t)) → Span start now (IsOldOrNew start b p (Some u))
moved a b o p t u start now area old new span =
    subst (λ x. Span start now (IsOldOrNew start x p (Some u))) area
    (subst (λ x. Span start now (IsOldOrNew start a x (Some u))) old
    (subst (λ x. Span start now (IsOldOrNew start a o (Some x))) new span))

pub invariant_of-result : goal.invariant_of-result
invariant_of-result c = λ d. subst (λ a. HasRecordMemory a d.replace.new.text) d.requires.area d.replace.ensures.room

pub returns-in-Err-clause-any_moment : goal.returns-in-Err-clause-any_moment
returns-in-Err-clause-any_moment c = λ d.
    let written = ap (λ l. take d.encode_now-len.result l) (with_items_is d.lengthen.new.room d.encode_now-len.new.out
    (d.encode_now-len.auto.out ∙ d.deref_mut.ensures.len)) ∙ d.encode_now-len.ensures.written in
    moved _ _ _ _ _ _ (c.D.Disk.state d.args.disk.now) (c.D.Disk.state d.replace.new.disk) d.requires.area d.requires.none
    written d.replace.ensures.replaces.any_moment

pub returns-in-Ok-clause-ready : goal.returns-in-Ok-clause-ready
returns-in-Ok-clause-ready c = λ d.
    let written = ap (λ l. take d.encode_now-len.result l) (with_items_is d.lengthen.new.room d.encode_now-len.new.out
    (d.encode_now-len.auto.out ∙ d.deref_mut.ensures.len)) ∙ d.encode_now-len.ensures.written in
    record {
      area = d.replace.ensures.next.area ∙ d.requires.area;
      within = omega (arith, d.requires.within, d.replace.ensures.replaces.any_moment.size);
      holds = d.in-Ok.ensures.holds ∙ ap Some written;
      rests = λ f left. (d.in-Ok.ensures.done f left).0;
    }

pub returns-in-Ok-clause-any_moment : goal.returns-in-Ok-clause-any_moment
returns-in-Ok-clause-any_moment c = λ d.
    let written = ap (λ l. take d.encode_now-len.result l) (with_items_is d.lengthen.new.room d.encode_now-len.new.out
    (d.encode_now-len.auto.out ∙ d.deref_mut.ensures.len)) ∙ d.encode_now-len.ensures.written in
    moved _ _ _ _ _ _ (c.D.Disk.state d.args.disk.now) (c.D.Disk.state d.replace.new.disk) d.requires.area d.requires.none
    written d.replace.ensures.replaces.any_moment

pub returns-in-Ok-clause-quiet : goal.returns-in-Ok-clause-quiet
returns-in-Ok-clause-quiet c = grind (arith, common_steps)
