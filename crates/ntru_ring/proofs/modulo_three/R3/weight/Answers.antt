use Rattle.std.proofs.Common.{ap, ◌∙◌, arith, count_by}
use Rattle.std.proofs.lemmas.List.{take_all}
use Rattle.ntru_ring.specs.Small.{weight, is_nonzero}
use Rattle.ntru_ring.proofs.modulo_three.R3.weight.Goals as goal

pub returns : goal.returns
unfolding weight
returns c =
    let a = c.args.self.now in
    c.loop-c.invariant ∙ ap (count_by is_nonzero) (take_all c.loop-c.c-index a.coefficients (omega (arith, a.length)))
