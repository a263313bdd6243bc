use Rattle.std.proofs.Common.{rules, ◌≡◌, arith, sym, ◌∙◌, subst, All}
use Rattle.ntru_ring.specs.Ring.{coefficient}
use Rattle.ntru_ring.specs.Reduction.{reduced, IsWithin}
use Rattle.ntru_ring.proofs.Rings.Kernels.{IsFilling-none, IsFilling-more, IsFilling-all}
use Rattle.ntru_ring.proofs.Rings.Congruence.{length-reduced, reduced_within}
use Rattle.ntru_ring.proofs.Rings.Places.{coefficient-reduced}
use Rattle.ntru_ring.proofs.Vectors.LanesQ.{read_centred}
use mir.Syntax.{w32}
use mir.Val.{SFits}
use Rattle.ntru_ring.proofs.sums_q.settled.Goals as goal

pub loop-k-init : goal.loop-k-init
loop-k-init c = let s = c.args.sums.now in IsFilling-none (reduced 2295 s) _ (sym (length-reduced 2295 s ∙ c.told-sums))

pub loop-k-preserved : goal.loop-k-preserved
loop-k-preserved c =
    let s = c.args.sums.now in
    let f : SFits w32 (coefficient s c.loop-k.k) = search rules in
    IsFilling-more (reduced 2295 s) c.loop-k.settled c.loop-k.k _ (omega (arith, length-reduced 2295 s, c.told-sums))
    (read_centred c.centred_q.result (coefficient s c.loop-k.k) f c.centred_q.ensures.value ∙ sym (coefficient-reduced 2295 s c.loop-k.k)) c.loop-k.invariant

whole : (c : goal.After-loop-k) → c.loop-k.settled ≡ reduced 2295 c.args.sums.now
whole c =
    let s = c.args.sums.now in IsFilling-all (reduced 2295 s) c.loop-k.settled c.loop-k.k (omega (arith, length-reduced 2295 s, c.told-sums)) c.loop-k.invariant

pub returns-clause-value : goal.returns-clause-value
returns-clause-value c = whole c

pub returns-clause-within : goal.returns-clause-within
returns-clause-within c = subst (All (IsWithin 2295)) (sym (whole c)) (reduced_within 2295 c.args.sums.now)
