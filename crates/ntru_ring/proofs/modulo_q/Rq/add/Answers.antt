use Rattle.std.proofs.Common.{◌≡◌, arith, sym, ap, ◌∙◌, subst, All, length, List, ℤ, ℕ, ◌≤◌}
use Rattle.std.proofs.lemmas.Grind.{common_steps}
use Rattle.ntru_ring.specs.declared.modulo_q.Rq.{Rq}
use Rattle.ntru_ring.specs.Ring.{coefficient, plus}
use Rattle.ntru_ring.specs.Reduction.{reduced, centred, IsWithin}
use Rattle.ntru_ring.proofs.Rings.Kernels.{IsFilling, IsFilling-none, IsFilling-more, IsFilling-all}
use Rattle.ntru_ring.proofs.Rings.Algebra.{length-plus}
use Rattle.ntru_ring.proofs.Rings.Congruence.{length-reduced, reduced_within}
use Rattle.ntru_ring.proofs.Rings.Places.{coefficient_within, coefficient-reduced, coefficient-plus}
use Rattle.ntru_ring.proofs.Vectors.LanesQ.{sum_centred}
use Rattle.ntru_ring.proofs.modulo_q.Rq.add.Goals as goal

long : (a b : List ℤ) → length a ≡ 761 → length b ≡ 761 → length (reduced 2295 (plus a b)) ≡ 761
long a b e f = length-reduced 2295 (plus a b) ∙ length-plus a b (e ∙ sym f) ∙ f

pub loop-k-init : goal.loop-k-init
loop-k-init c =
    let a = c.args.self.now in
    let b = c.args.o.now in
    IsFilling-none (reduced 2295 (plus a.coefficients b.coefficients)) _ (sym (long a.coefficients b.coefficients a.length b.length))

pub loop-k-preserved : goal.loop-k-preserved
loop-k-preserved c =
    let a = c.args.self.now in
    let b = c.args.o.now in
    let k = c.loop-k.k in
    let s = plus a.coefficients b.coefficients in
    let v = coefficient_within 2295 a.coefficients k a.within in
    let w = coefficient_within 2295 b.coefficients k b.within in
    IsFilling-more (reduced 2295 s) c.loop-k.sum k _ (omega (arith, long a.coefficients b.coefficients a.length b.length))
    (sum_centred (coefficient a.coefficients k) (coefficient b.coefficients k) c.from.result c.from-in-loop-k.result c.centred_q.result v w c.from.ensures c.from-in-loop-k.ensures c.centred_q.ensures.value
    ∙ sym (coefficient-reduced 2295 s k ∙ ap (centred 2295) (coefficient-plus a.coefficients b.coefficients k (a.length ∙ sym b.length)))) c.loop-k.invariant

whole : (a b : Rq) (xs : List ℤ) (k : ℕ) → 761 ≤ k → IsFilling (reduced 2295 (plus a.coefficients b.coefficients)) xs k → xs ≡ reduced 2295 (plus a.coefficients b.coefficients)
whole a b xs k l f = IsFilling-all (reduced 2295 (plus a.coefficients b.coefficients)) xs k (omega (arith, long a.coefficients b.coefficients a.length b.length)) f

pub invariant_of-result : goal.invariant_of-result
invariant_of-result c =
    let a = c.args.self.now in
    let b = c.args.o.now in
    record {
      length = ap length (whole a b c.loop-k.sum c.loop-k.k (omega arith) c.loop-k.invariant) ∙ long a.coefficients b.coefficients a.length b.length;
      within = subst (All (IsWithin 2295)) (sym (whole a b c.loop-k.sum c.loop-k.k (omega arith) c.loop-k.invariant)) (reduced_within 2295 (plus a.coefficients b.coefficients));
    }

pub returns : goal.returns
returns c = whole c.args.self.now c.args.o.now c.loop-k.sum c.loop-k.k (omega arith) c.loop-k.invariant

pub centred_q-requires : goal.centred_q-requires
centred_q-requires c = grind (arith, common_steps)
