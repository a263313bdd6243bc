use Rattle.std.proofs.Common.{◌≡◌, arith, sym, ap, ◌∙◌, subst, All, length, List, ℤ, ℕ, ◌≤◌}
use Rattle.ntru_ring.specs.declared.modulo_q.Rq.{Rq}
use Rattle.ntru_ring.specs.Ring.{coefficient}
use Rattle.ntru_ring.specs.Reduction.{reduced, IsWithin}
use Rattle.ntru_ring.proofs.Rings.Kernels.{IsFilling, IsFilling-none, IsFilling-more, IsFilling-all}
use Rattle.ntru_ring.proofs.Rings.Congruence.{length-reduced, reduced_within}
use Rattle.ntru_ring.proofs.Rings.Places.{coefficient_within, coefficient-reduced}
use Rattle.ntru_ring.proofs.Numbers.Ranges.{within_fits}
use Rattle.ntru_ring.proofs.Vectors.Lanes3.{read_centred}
use mir.Syntax.{w16}
use Rattle.std.proofs.Common.{lit<}
use Rattle.ntru_ring.proofs.modulo_q.Rq.to_r3.Goals as goal

pub loop-k-init : goal.loop-k-init
loop-k-init c = let s = c.args.self.now in IsFilling-none (reduced 1 s.coefficients) _ (sym (length-reduced 1 s.coefficients ∙ s.length))

pub loop-k-preserved : goal.loop-k-preserved
loop-k-preserved c =
    let s = c.args.self.now in
    let x = coefficient s.coefficients c.loop-k.k in
    IsFilling-more (reduced 1 s.coefficients) c.loop-k.small c.loop-k.k _ (omega (arith, length-reduced 1 s.coefficients, s.length))
    (read_centred c.centred_three.result x (within_fits w16 2295 x (coefficient_within 2295 s.coefficients c.loop-k.k s.within) (lit< tt)) c.centred_three.ensures.value
    ∙ sym (coefficient-reduced 1 s.coefficients c.loop-k.k)) c.loop-k.invariant

whole : (s : Rq) (xs : List ℤ) (k : ℕ) → 761 ≤ k → IsFilling (reduced 1 s.coefficients) xs k → xs ≡ reduced 1 s.coefficients
whole s xs k l f = IsFilling-all (reduced 1 s.coefficients) xs k (omega (arith, length-reduced 1 s.coefficients, s.length)) f

pub invariant_of-result : goal.invariant_of-result
invariant_of-result c =
    let s = c.args.self.now in
    record { length = ap length (whole s c.loop-k.small c.loop-k.k (omega arith) c.loop-k.invariant) ∙ length-reduced 1 s.coefficients ∙ s.length; within = subst (All (IsWithin 1)) (sym (whole s c.loop-k.small c.loop-k.k (omega arith) c.loop-k.invariant)) (reduced_within 1 s.coefficients) }

pub returns : goal.returns
returns c = whole c.args.self.now c.loop-k.small c.loop-k.k (omega arith) c.loop-k.invariant
