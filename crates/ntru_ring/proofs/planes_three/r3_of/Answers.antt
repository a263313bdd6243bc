use Rattle.std.proofs.Common.{sym, ap, ◌∙◌, arith, lit<, subst, All, length}
use Rattle.ntru_ring.specs.Reduction.{IsWithin}
use Rattle.ntru_ring.specs.Planes.{element_of}
use Rattle.ntru_ring.proofs.Rings.Kernels.{IsFilling-none, IsFilling-more, IsFilling-all}
use Rattle.ntru_ring.proofs.Vectors.Planes.{length-element_of, element_within}
use Rattle.ntru_ring.proofs.Numbers.Ranges.{stored}
use mir.Syntax.{w16}
use Rattle.ntru_ring.proofs.planes_three.r3_of.Goals as goal

pub loop-k-init : goal.loop-k-init
loop-k-init c =
    let p = c.args.planes.now in
    IsFilling-none (element_of p.nonzero p.negative) c.zero.result.coefficients (c.zero.result.length ∙ sym (length-element_of p.nonzero p.negative))

pub loop-k-preserved : goal.loop-k-preserved
loop-k-preserved c =
    let p = c.args.planes.now in
    let k = c.loop-k.k in
    IsFilling-more (element_of p.nonzero p.negative) c.loop-k.coefficients k _ (omega (arith, length-element_of p.nonzero p.negative)) (stored w16 1 c.at.result c.at.ensures.within (lit< tt) ∙ c.at.ensures.value) c.loop-k.invariant

pub invariant_of-result : goal.invariant_of-result
invariant_of-result c =
    let p = c.args.planes.now in
    let e = IsFilling-all (element_of p.nonzero p.negative) c.loop-k.coefficients c.loop-k.k (omega (arith, length-element_of p.nonzero p.negative)) c.loop-k.invariant in
    record {
      length = ap length e ∙ length-element_of p.nonzero p.negative;
      within = subst (All (IsWithin 1)) (sym e) (element_within p.nonzero p.negative p.inside);
    }

pub returns : goal.returns
returns c =
    let p = c.args.planes.now in
    IsFilling-all (element_of p.nonzero p.negative) c.loop-k.coefficients c.loop-k.k (omega (arith, length-element_of p.nonzero p.negative)) c.loop-k.invariant
