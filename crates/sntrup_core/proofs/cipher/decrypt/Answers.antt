use Rattle.std.proofs.Common.{◌≡◌, sym, ap, ◌∙◌}
use Rattle.ntru_ring.specs.Ring.{times}
use Rattle.ntru_ring.specs.Reduction.{reduced}
use Rattle.sntrup_core.specs.Core.{recovered}
use Rattle.sntrup_core.proofs.Ciphers.{recovered-is, decrypted-kept, decrypted-ones}
use Rattle.sntrup_core.proofs.cipher.decrypt.Goals.{After-mul-r}
use Rattle.sntrup_core.proofs.cipher.decrypt.Goals as goal

is_recovered : (c : After-mul-r) → c.mul-r.result.coefficients ≡ recovered c.args.f.now.coefficients c.args.v.now.coefficients c.args.c.now.coefficients
is_recovered c =
    let f = c.args.f.now in
    let b = c.args.c.now in
    recovered-is f.coefficients c.args.v.now.coefficients b.coefficients c.mul_small.result.coefficients c.scale.result.coefficients c.to_r3.result.coefficients
    c.mul-r.result.coefficients (f.length ∙ sym b.length) (c.mul_small.ensures ∙ ap (λ t. reduced 2295 (times b.coefficients t)) c.planes_of.ensures)
    c.scale.ensures c.to_r3.ensures c.mul-r.ensures

pub returns-then-weight-eq-WEIGHT : goal.returns-then-weight-eq-WEIGHT
returns-then-weight-eq-WEIGHT c =
    decrypted-kept c.args.f.now.coefficients c.args.v.now.coefficients c.args.c.now.coefficients c.mul-r.result.coefficients
    (is_recovered (goal.at.returns-then-weight-eq-WEIGHT c).After-mul-r) (sym c.weight.ensures ∙ c.if-weight-eq-WEIGHT.true)

pub returns-else-weight-eq-WEIGHT : goal.returns-else-weight-eq-WEIGHT
returns-else-weight-eq-WEIGHT c =
    c.ones.ensures
    ∙ decrypted-ones c.args.f.now.coefficients c.args.v.now.coefficients c.args.c.now.coefficients c.mul-r.result.coefficients
    (is_recovered (goal.at.returns-else-weight-eq-WEIGHT c).After-mul-r) (λ e. c.if-weight-eq-WEIGHT.false (c.weight.ensures ∙ e))
