use Rattle.std.proofs.Common.{◌≡◌, subst, sym, ap, map, ◌∙◌, arith, pos}
use Rattle.std.proofs.lemmas.Grind.{common_steps}
use Rattle.std.proofs.lemmas.List.Elements.{All-from_get_or}
use Rattle.ntru_ring.proofs.Vectors.Mapped.{mapped}
use Rattle.ntru_ring.specs.Reduction.{IsWithin}
use Rattle.sntrup_core.specs.Sampling.{short_coefficient, short_element}
use Rattle.sntrup_core.specs.Core.{IsShort}
use Rattle.sntrup_core.proofs.Shorts.{sorted-marked, sorted-all, short_coefficient-within, short_element-short}
use Rattle.sntrup_core.proofs.sampling.short_of.Goals as goal

pub short_coefficient-requires : goal.short_coefficient-requires
short_coefficient-requires c =
    let is = sorted-marked c.args.words.now c.mark-sorted.result c.sort_unstable.new.self c.mark-sorted.ensures
    c.sort_unstable.ensures.permutation c.sort_unstable.ensures.sorted in
    sorted-all c.args.words.now c.sort_unstable.new.self is c.loop-k.k 0 (omega arith)

pub new-requires : goal.new-requires
new-requires c =
    let is = sorted-marked c.args.words.now c.mark-sorted.result c.sort_unstable.new.self c.mark-sorted.ensures
    c.sort_unstable.ensures.permutation c.sort_unstable.ensures.sorted in
    All-from_get_or (IsWithin 1) c.loop-k.coefficients (pos 0) (λ i h.
    subst (IsWithin 1) (sym (c.loop-k.invariant.written i (omega arith)))
    (short_coefficient-within _ (sorted-all c.args.words.now c.sort_unstable.new.self is i 0 (omega arith))))

pub returns-clause-value : goal.returns-clause-value
unfolding short_element
returns-clause-value c =
    let is = sorted-marked c.args.words.now c.mark-sorted.result c.sort_unstable.new.self c.mark-sorted.ensures
    c.sort_unstable.ensures.permutation c.sort_unstable.ensures.sorted in
    c.new.ensures
    ∙ mapped short_coefficient 0 (pos 0) c.sort_unstable.new.self c.loop-k.coefficients (omega arith)
    (λ j h. c.loop-k.invariant.written j (omega arith))
    ∙ ap (map short_coefficient) is

pub returns-clause-short : goal.returns-clause-short
unfolding short_element
returns-clause-short c =
    let is = sorted-marked c.args.words.now c.mark-sorted.result c.sort_unstable.new.self c.mark-sorted.ensures
    c.sort_unstable.ensures.permutation c.sort_unstable.ensures.sorted in
    let same : c.new.result.coefficients ≡ short_element c.args.words.now =
    c.new.ensures
    ∙ mapped short_coefficient 0 (pos 0) c.sort_unstable.new.self c.loop-k.coefficients (omega arith)
    (λ j h. c.loop-k.invariant.written j (omega arith))
    ∙ ap (map short_coefficient) is in
    subst IsShort (sym same) (short_element-short c.args.words.now c.told-words)

pub loop-k-preserved : goal.loop-k-preserved
loop-k-preserved c = grind (arith, common_steps)
