use Rattle.std.proofs.Common.{◌≡◌, Bool, false, List, ℕ, length, get_or, replicate, refl, sym, ◌∙◌, ap, arith}
use Rattle.std.proofs.lemmas.List.{length-replicate}
use Rattle.dr_disk.proofs.Bounds.{around_none, cleared, copied, settled_image}
use Rattle.dr_disk.proofs.platter.Platter.settle.Goals as goal
use Rattle.dr_disk.proofs.platter.Platter.settle.Goals.{After-unmark}

durable_is : (c : After-unmark) → c.copy_range.new.bytes.items ≡ c.args.self.now.bytes.items
durable_is c =
    let self = c.args.self.now in
    let same = settled_image self.durable.items self.durable.items self.durable.items self.marks.items refl refl in
    c.copy_range.ensures ∙ copied self.durable.items self.bytes.items self.marks.items self.low self.high self.order self.end self.around self.agrees self.durable.items same

asked_is : (c : After-unmark) → c.copy_range-2.new.bytes.items ≡ c.args.self.now.bytes.items
asked_is c =
    let self = c.args.self.now in
    c.copy_range-2.ensures ∙ copied self.durable.items self.bytes.items self.marks.items self.low self.high self.order self.end self.around self.agrees self.asked.items self.asks

marks_are : (c : After-unmark) → c.unmark.new.marks.items ≡ replicate (length c.args.self.now.marks.items) false
marks_are c =
    let self = c.args.self.now in
    c.unmark.ensures ∙ cleared self.durable.items self.bytes.items self.marks.items self.low self.high self.order self.end self.around self.agrees self.one_mark_each

pub invariant_of-self : goal.invariant_of-self
invariant_of-self c =
    let self = c.args.self.now in
    let at = (goal.at.invariant_of-self c).After-unmark in
    let marks = marks_are at in
    record {
      agrees = settled_image _ self.bytes.items self.bytes.items _ (durable_is at) refl;
      asks = settled_image _ self.bytes.items _ _ (durable_is at) (asked_is at);
      one_mark_each = ap (λ (m : List Bool). length m) marks ∙ length-replicate (length self.marks.items) false ∙ self.one_mark_each ∙ sym (ap (λ (l : List ℕ). length l) (durable_is at) ∙ self.agrees.size);
      order = omega arith;
      end = omega arith;
      around = λ i is. around_none (length self.marks.items) 0 0 i (sym (ap (λ (m : List Bool). get_or m i false) marks) ∙ is);
    }

pub returns-clause-durable : goal.returns-clause-durable
returns-clause-durable c = durable_is (goal.at.returns-clause-durable c).After-unmark

pub returns-clause-asked : goal.returns-clause-asked
returns-clause-asked c = asked_is (goal.at.returns-clause-asked c).After-unmark

pub returns-clause-marks : goal.returns-clause-marks
returns-clause-marks c = marks_are (goal.at.returns-clause-marks c).After-unmark
