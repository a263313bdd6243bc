use Rattle.std.proofs.Common.{◌≡◌, arith, sym, ap, ◌∙◌, subst, All, length, List, ℤ, ℕ, ◌≤◌}
use Rattle.std.proofs.lemmas.Grind.{common_steps}
use Rattle.ntru_ring.specs.declared.modulo_three.R3.{R3}
use Rattle.ntru_ring.specs.Ring.{coefficient, plus}
use Rattle.ntru_ring.specs.Reduction.{reduced, centred, IsWithin}
use Rattle.ntru_ring.proofs.Rings.Kernels.{IsFilling, IsFilling-none, IsFilling-more, IsFilling-all}
use Rattle.ntru_ring.proofs.Rings.Algebra.{length-plus}
use Rattle.ntru_ring.proofs.Rings.Congruence.{length-reduced, reduced_within}
use Rattle.ntru_ring.proofs.Rings.Places.{coefficient_within, coefficient-reduced, coefficient-plus}
use Rattle.ntru_ring.proofs.Vectors.Lanes3.{sum_centred}
use Rattle.ntru_ring.proofs.modulo_three.R3.add.Goals as goal

long : (a b : List ℤ) → length a ≡ 761 → length b ≡ 761 → length (reduced 1 (plus a b)) ≡ 761
long a b e f = length-reduced 1 (plus a b) ∙ length-plus a b (e ∙ sym f) ∙ f

pub loop-k-init : goal.loop-k-init
loop-k-init c =
    let a = c.args.self.now in
    let b = c.args.o.now in
    IsFilling-none (reduced 1 (plus a.coefficients b.coefficients)) _ (sym (long a.coefficients b.coefficients a.length b.length))

pub loop-k-preserved : goal.loop-k-preserved
loop-k-preserved c =
    let a = c.args.self.now in
    let b = c.args.o.now in
    let k = c.loop-k.k in
    let s = plus a.coefficients b.coefficients in
    let v = coefficient_within 1 a.coefficients k a.within in
    let w = coefficient_within 1 b.coefficients k b.within in
    IsFilling-more (reduced 1 s) c.loop-k.sum k _ (omega (arith, long a.coefficients b.coefficients a.length b.length))
    (sum_centred (coefficient a.coefficients k) (coefficient b.coefficients k) c.centred_three.result v w c.centred_three.ensures.value
    ∙ sym (coefficient-reduced 1 s k ∙ ap (centred 1) (coefficient-plus a.coefficients b.coefficients k (a.length ∙ sym b.length)))) c.loop-k.invariant

whole : (a b : R3) (xs : List ℤ) (k : ℕ) → 761 ≤ k → IsFilling (reduced 1 (plus a.coefficients b.coefficients)) xs k → xs ≡ reduced 1 (plus a.coefficients b.coefficients)
whole a b xs k l f = IsFilling-all (reduced 1 (plus a.coefficients b.coefficients)) xs k (omega (arith, long a.coefficients b.coefficients a.length b.length)) f

pub invariant_of-result : goal.invariant_of-result
invariant_of-result c =
    let a = c.args.self.now in
    let b = c.args.o.now in
    record {
      length = ap length (whole a b c.loop-k.sum c.loop-k.k (omega arith) c.loop-k.invariant) ∙ long a.coefficients b.coefficients a.length b.length;
      within = subst (All (IsWithin 1)) (sym (whole a b c.loop-k.sum c.loop-k.k (omega arith) c.loop-k.invariant)) (reduced_within 1 (plus a.coefficients b.coefficients));
    }

pub returns : goal.returns
returns c = whole c.args.self.now c.args.o.now c.loop-k.sum c.loop-k.k (omega arith) c.loop-k.invariant

pub centred_three-requires : goal.centred_three-requires
centred_three-requires c = grind (arith, common_steps)
