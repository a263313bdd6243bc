use Rattle.std.proofs.Common.{ap, ◌∙◌}
use Rattle.ntru_ring.specs.Units.{square_modulo, square_and_modulo, inverse_modulo}
use Rattle.ntru_ring.proofs.units_q.power.Goals as goal

pub returns-clause-value : goal.returns-clause-value
unfolding inverse_modulo
returns-clause-value c =
    let s = square_and_modulo c.args.x in
    let x2 = c.square.ensures.value in
    let x4 = c.square-2.ensures.value ∙ ap square_modulo x2 in
    let x8 = c.square-x8.ensures.value ∙ ap square_modulo x4 in
    let x17 = c.square_and.ensures.value ∙ ap s x8 in
    let x35 = c.square_and-2.ensures.value ∙ ap s x17 in
    let x71 = c.square_and-3.ensures.value ∙ ap s x35 in
    let x143 = c.square_and-x143.ensures.value ∙ ap s x71 in
    let x286 = c.square-3.ensures.value ∙ ap square_modulo x143 in
    let x573 = c.square_and-4.ensures.value ∙ ap s x286 in
    let x1147 = c.square_and-x1147.ensures.value ∙ ap s x573 in
    let x2294 = c.square-4.ensures.value ∙ ap square_modulo x1147 in
    c.square_and-5.ensures.value ∙ ap s x2294
