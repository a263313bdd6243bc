use Rattle.std.proofs.Common.{sym, ap, ◌∙◌}
use Rattle.ntru_ring.specs.Ring.{times}
use Rattle.ntru_ring.specs.Reduction.{reduced}
use Rattle.ntru_ring.proofs.Rings.Unit.{times_comm}
use Rattle.ntru_inverse.proofs.inverses_q.trial.Goals as goal

pub returns-then-is_small : goal.returns-then-is_small
returns-then-is_small c =
    let f = c.args.f.now in
    let v = c.args.candidate.now in
    c.mul_small.ensures ∙ ap (λ t. reduced 2295 (times v.coefficients t)) (c.planes_of.ensures ∙ c.new.ensures)
    ∙ ap (reduced 2295) (times_comm v.coefficients f.coefficients (v.length ∙ sym f.length))
