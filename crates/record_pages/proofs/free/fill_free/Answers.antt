use Rattle.std.proofs.Common.{◌≡◌, ◌++◌, ◌∷◌, [], length, ap, sym, ◌∙◌, arith, length-append, vec_capacity}
use Rattle.std.proofs.lemmas.Grind.{common_steps}
use Rattle.record_pages.proofs.FreeNumbers.{free_in, free_next}
use Rattle.record_pages.proofs.free.fill_free.Goals.{then-not-contains, else-not-contains}
use Rattle.record_pages.proofs.free.fill_free.Goals as goal

pub numbers-preserved : goal.numbers-preserved
numbers-preserved c = elim c.if-not-contains.branch [
  | then-not-contains w ↦
      let pushed : w.push.new.self.items ≡ c.numbers.free.items ++ c.numbers.number-counter ∷ [] = grind (arith, common_steps) in
      let now : c.if-not-contains.free.items ≡ c.numbers.free.items ++ c.numbers.number-counter ∷ [] = ap (λ v. v.items) w.free-is ∙ pushed in
      record {
        filled = now ∙ ap (λ l. l ++ c.numbers.number-counter ∷ []) c.numbers.invariant.filled
            ∙ sym (free_next c.args.numbers.now c.numbers.number-counter c.args.least c.numbers.auto.number-counter (sym c.contains.ensures.value ∙ w.if-not-contains.true));
        few = omega (arith, ap length now, length-append c.numbers.free.items (c.numbers.number-counter ∷ []), c.numbers.invariant.few, c.numbers.auto.number-counter);
        room = omega (arith, ap vec_capacity w.free-is, w.push.ensures.capacity, c.numbers.invariant.room);
      }
  | else-not-contains w ↦
      record {
        filled = ap (λ v. v.items) w.free-is ∙ c.numbers.invariant.filled
            ∙ sym (free_in c.args.numbers.now c.numbers.number-counter c.args.least c.numbers.auto.number-counter (sym c.contains.ensures.value ∙ w.if-not-contains.false));
        few = omega (arith, ap (λ v. length v.items) w.free-is, c.numbers.invariant.few, c.numbers.auto.number-counter);
        room = omega (arith, ap vec_capacity w.free-is, c.numbers.invariant.room);
      }
]
