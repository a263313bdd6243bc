use Rattle.std.proofs.Common.{◌≡◌, arith, sym, ap, ◌∙◌, to_z, of_z, ◌*ℤ◌, subst, All, length, List, ℤ, ℕ, ◌≤◌}
use Rattle.ntru_ring.specs.declared.modulo_q.Rq.{Rq}
use Rattle.ntru_ring.specs.Ring.{coefficient, scale}
use Rattle.ntru_ring.specs.Reduction.{reduced, centred, IsWithin}
use Rattle.ntru_ring.proofs.Rings.Kernels.{IsFilling, IsFilling-none, IsFilling-more, IsFilling-all}
use Rattle.ntru_ring.proofs.Rings.Algebra.{length-scale}
use Rattle.ntru_ring.proofs.Rings.Congruence.{length-reduced, reduced_within}
use Rattle.ntru_ring.proofs.Rings.Places.{coefficient_within, coefficient-reduced, coefficient-scale}
use Rattle.ntru_ring.proofs.Vectors.LanesQ.{product_centred, product_within}
use Rattle.std.proofs.lemmas.Int.{to_z-of_z}
use mir.Syntax.{w16}
use mir.Val.{SFits}
use Rattle.ntru_ring.proofs.modulo_q.Rq.scale.Goals as goal

long : (c : ℤ) (a : List ℤ) → length a ≡ 761 → length (reduced 2295 (scale c a)) ≡ 761
long c a e = length-reduced 2295 (scale c a) ∙ length-scale c a ∙ e

pub loop-k-init : goal.loop-k-init
loop-k-init c =
    let a = c.args.self.now in
    IsFilling-none _ _ (sym (long _ a.coefficients a.length))

pub centred_q-requires : goal.centred_q-requires
centred_q-requires c =
    let a = c.args.self.now in
    product_within c.args.by (coefficient a.coefficients c.loop-k.k) c.from.result c.from-in-loop-k.result c.ranges.by (coefficient_within 2295 a.coefficients c.loop-k.k a.within) c.from.ensures c.from-in-loop-k.ensures

pub loop-k-preserved : goal.loop-k-preserved
loop-k-preserved c =
    let a = c.args.self.now in
    let k = c.loop-k.k in
    let by = to_z w16 (of_z w16 c.args.by) in
    let s = scale by a.coefficients in
    let f = to_z-of_z w16 c.args.by c.ranges.by in
    let v = coefficient_within 2295 a.coefficients k a.within in
    IsFilling-more (reduced 2295 s) c.loop-k.scaled k _ (omega (arith, long by a.coefficients a.length))
    (product_centred c.args.by (coefficient a.coefficients k) c.from.result c.from-in-loop-k.result c.centred_q.result c.ranges.by v c.from.ensures c.from-in-loop-k.ensures c.centred_q.ensures.value
    ∙ ap (λ t. centred 2295 (t *ℤ coefficient a.coefficients k)) (sym f) ∙ sym (coefficient-reduced 2295 s k ∙ ap (centred 2295) (coefficient-scale by a.coefficients k))) c.loop-k.invariant

whole : (by : ℤ) (a : Rq) (xs : List ℤ) (k : ℕ) → SFits w16 by → 761 ≤ k → IsFilling (reduced 2295 (scale (to_z w16 (of_z w16 by)) a.coefficients)) xs k → xs ≡ reduced 2295 (scale by a.coefficients)
whole by a xs k r l f =
    IsFilling-all (reduced 2295 (scale (to_z w16 (of_z w16 by)) a.coefficients)) xs k (omega (arith, long (to_z w16 (of_z w16 by)) a.coefficients a.length)) f
    ∙ ap (λ t. reduced 2295 (scale t a.coefficients)) (to_z-of_z w16 by r)

pub invariant_of-result : goal.invariant_of-result
invariant_of-result c =
    let a = c.args.self.now in
    record {
      length = ap length (whole c.args.by a c.loop-k.scaled c.loop-k.k c.ranges.by (omega arith) c.loop-k.invariant) ∙ long c.args.by a.coefficients a.length;
      within = subst (All (IsWithin 2295)) (sym (whole c.args.by a c.loop-k.scaled c.loop-k.k c.ranges.by (omega arith) c.loop-k.invariant)) (reduced_within 2295 (scale c.args.by a.coefficients));
    }

pub returns : goal.returns
returns c = whole c.args.by c.args.self.now c.loop-k.scaled c.loop-k.k c.ranges.by (omega arith) c.loop-k.invariant
