use Rattle.std.proofs.Common.{sym, ap, ◌∙◌, subst, All, length, neg_ℤ}
use Rattle.ntru_ring.specs.Ring.{plus, scale}
use Rattle.ntru_ring.specs.Reduction.{centred, reduced, IsWithin}
use Rattle.ntru_ring.proofs.Rings.Congruence.{reduced_within, reduced-subtracted}
use Rattle.ntru_ring.proofs.Rings.Kernels.{length_added}
use Rattle.ntru_ring.proofs.Vectors.LanesQ.{stored_centred, widened_word}
use Rattle.ntru_ring.proofs.modulo_q.Rq.subtract_row.Goals as goal

pub invariant_of-self : goal.invariant_of-self
invariant_of-self c =
    let a = c.args.self.now in
    let b = c.args.other.now in
    record {
      length = ap length c.subtract_multiple.ensures ∙ length_added 2295 a.coefficients b.coefficients _ (a.length ∙ sym b.length) ∙ b.length;
      within = subst (All (IsWithin 2295)) (sym c.subtract_multiple.ensures) (reduced_within 2295 _);
    }

pub returns : goal.returns
returns c =
    let a = c.args.self.now in
    let b = c.args.other.now in
    c.subtract_multiple.ensures
    ∙ ap (λ t. reduced 2295 (plus a.coefficients (scale (neg_ℤ t) b.coefficients))) (stored_centred c.centred_q.result _ c.centred_q.ensures.value ∙ ap (centred 2295) (widened_word c.args.factor c.from.result c.ranges.factor c.from.ensures))
    ∙ reduced-subtracted 2295 c.args.factor a.coefficients b.coefficients
