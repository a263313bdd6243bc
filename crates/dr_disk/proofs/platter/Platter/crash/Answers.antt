use Rattle.std.proofs.Common.{◌≡◌, Bool, false, List, length, get_or, replicate, refl, sym, ◌∙◌, ap, arith}
use Rattle.std.proofs.lemmas.List.{length-replicate}
use Rattle.dr_disk.proofs.Bounds.{around_none, cleared, settled_image}
use Rattle.dr_disk.proofs.platter.Platter.crash.Goals as goal
use Rattle.dr_disk.proofs.platter.Platter.crash.Goals.{After-unmark}

marks_are : (c : After-unmark) → c.unmark.new.marks.items ≡ replicate (length c.args.self.marks.items) false
marks_are c =
    let self = c.args.self in
    c.unmark.ensures ∙ cleared self.durable.items self.bytes.items self.marks.items self.low self.high self.order self.end self.around self.agrees self.one_mark_each

pub invariant_of-result : goal.invariant_of-result
invariant_of-result c =
    let self = c.args.self in
    let durable = c.leave.new.durable.items in
    let marks = marks_are c in
    record {
      agrees = settled_image durable durable _ _ refl (c.copy_from_slice.ensures.items ∙ c.deref.ensures.value);
      asks = settled_image durable durable _ _ refl (c.copy_from_slice-2.ensures.items ∙ c.deref-2.ensures.value);
      one_mark_each = ap (λ (m : List Bool). length m) marks ∙ length-replicate (length self.marks.items) false ∙ self.one_mark_each ∙ sym c.leave.ensures.size;
      order = omega arith;
      end = omega arith;
      around = λ i is. around_none (length self.marks.items) 0 0 i (sym (ap (λ (m : List Bool). get_or m i false) marks) ∙ is);
    }

pub returns-clause-marks : goal.returns-clause-marks
returns-clause-marks c = marks_are (goal.at.returns-clause-marks c).After-unmark
