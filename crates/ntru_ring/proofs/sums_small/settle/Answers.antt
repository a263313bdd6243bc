use Rattle.std.proofs.Common.{rules, ◌≡◌, arith, sym, ap, ◌∙◌, subst, All}
use Rattle.ntru_ring.specs.Ring.{coefficient}
use Rattle.ntru_ring.specs.Reduction.{centred, reduced, IsWithin}
use Rattle.ntru_ring.proofs.Rings.Kernels.{IsReplaced-none, IsReplaced-more, IsReplaced-all}
use Rattle.ntru_ring.proofs.Rings.Congruence.{length-reduced, reduced_within}
use Rattle.ntru_ring.proofs.Rings.Places.{coefficient-reduced}
use Rattle.ntru_ring.proofs.Vectors.WordsQ.{read_word}
use mir.Syntax.{w16}
use mir.Val.{SFits}
use Rattle.ntru_ring.proofs.sums_small.settle.Goals as goal

pub loop-k-init : goal.loop-k-init
loop-k-init c = let s = c.args.sums.now in IsReplaced-none (reduced 2295 s) s (sym (length-reduced 2295 s))

pub loop-k-preserved : goal.loop-k-preserved
loop-k-preserved c =
    let s = c.args.sums.now in
    let k = c.loop-k.k in
    let x = coefficient c.loop-k.sums k in
    let f : SFits w16 x = search rules in
    IsReplaced-more (reduced 2295 s) s c.loop-k.sums k _ (omega (arith, length-reduced 2295 s, c.told-sums))
    (read_word c.centred_word.result x f c.centred_word.ensures.value ∙ ap (centred 2295) (c.loop-k.invariant.rest k (omega arith)) ∙ sym (coefficient-reduced 2295 s k)) c.loop-k.invariant

whole : (c : goal.After-loop-k) → c.loop-k.sums ≡ reduced 2295 c.args.sums.now
whole c =
    let s = c.args.sums.now in
    IsReplaced-all (reduced 2295 s) s c.loop-k.sums c.loop-k.k (omega (arith, length-reduced 2295 s, c.told-sums)) c.loop-k.invariant

pub returns-clause-value : goal.returns-clause-value
returns-clause-value c = whole c

pub returns-clause-within : goal.returns-clause-within
returns-clause-within c = subst (All (IsWithin 2295)) (sym (whole c)) (reduced_within 2295 c.args.sums.now)
