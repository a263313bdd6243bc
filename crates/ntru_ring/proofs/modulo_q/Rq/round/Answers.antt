use Rattle.std.proofs.Common.{◌≡◌, arith, sym, ap, ◌∙◌, subst, All, length, List, ℤ, ℕ, ◌≤◌}
use Rattle.ntru_ring.specs.declared.modulo_q.Rq.{Rq}
use Rattle.ntru_ring.specs.Ring.{coefficient}
use Rattle.ntru_ring.specs.Reduction.{IsWithin}
use Rattle.ntru_ring.proofs.Rings.Kernels.{IsFilling, IsFilling-none, IsFilling-more, IsFilling-all}
use Rattle.ntru_ring.proofs.Rings.Places.{coefficient_within}
use Rattle.ntru_ring.proofs.Numbers.Ranges.{stored}
use Rattle.ntru_ring.specs.Small.{nearest, rounded}
use Rattle.ntru_ring.proofs.Rings.Places.{coefficient-rounded, length-rounded}
use Rattle.ntru_ring.proofs.Numbers.Rounds.{rounded_within}
use mir.Syntax.{w16}
use Rattle.std.proofs.Common.{lit<}
use Rattle.ntru_ring.proofs.modulo_q.Rq.round.Goals as goal

pub loop-k-init : goal.loop-k-init
loop-k-init c = let s = c.args.self.now in IsFilling-none (rounded s.coefficients) _ (sym (length-rounded s.coefficients ∙ s.length))

pub loop-k-preserved : goal.loop-k-preserved
loop-k-preserved c =
    let s = c.args.self.now in
    let x = coefficient s.coefficients c.loop-k.k in
    let v = coefficient_within 2295 s.coefficients c.loop-k.k s.within in
    let e = c.nearest.ensures.value ∙ ap nearest (stored w16 2295 x v (lit< tt)) in
    IsFilling-more (rounded s.coefficients) c.loop-k.rounded c.loop-k.k _ (omega (arith, length-rounded s.coefficients, s.length))
    (stored w16 2295 c.nearest.result c.nearest.ensures.within (lit< tt) ∙ e ∙ sym (coefficient-rounded s.coefficients c.loop-k.k (omega (arith, s.length)))) c.loop-k.invariant

whole : (s : Rq) (xs : List ℤ) (k : ℕ) → 761 ≤ k → IsFilling (rounded s.coefficients) xs k → xs ≡ rounded s.coefficients
whole s xs k l f = IsFilling-all (rounded s.coefficients) xs k (omega (arith, length-rounded s.coefficients, s.length)) f

pub invariant_of-result : goal.invariant_of-result
invariant_of-result c =
    let s = c.args.self.now in
    record { length = ap length (whole s c.loop-k.rounded c.loop-k.k (omega arith) c.loop-k.invariant) ∙ length-rounded s.coefficients ∙ s.length; within = subst (All (IsWithin 2295)) (sym (whole s c.loop-k.rounded c.loop-k.k (omega arith) c.loop-k.invariant)) (rounded_within s.coefficients s.within) }

pub returns : goal.returns
returns c = whole c.args.self.now c.loop-k.rounded c.loop-k.k (omega arith) c.loop-k.invariant
