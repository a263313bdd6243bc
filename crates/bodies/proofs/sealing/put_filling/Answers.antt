use Rattle.std.proofs.Common.{◌∙◌, ◌≤◌, List, ℕ, replicate, ap, subst, arith}
use Rattle.std.proofs.lemmas.List.{take-replicate}
use Rattle.dr_base.specs.Buffer.{Puts}
use Rattle.bodies.proofs.sealing.put_filling.Goals as goal

pub returns : goal.returns
returns c =
    let count = c.filling-count in
    let few : count.result ≤ 256 = omega (arith, count.ensures.few) in
    let zeros = take-replicate count.result 256 0 few ∙ ap (λ (n : ℕ). replicate n 0) count.ensures.value in
    subst (λ (z : List ℕ). Puts c.args.out.now c.put.new.out c.args.at z c.put.result) zeros c.put.ensures
