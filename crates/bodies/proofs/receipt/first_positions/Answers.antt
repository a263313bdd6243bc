use Rattle.std.proofs.Common.{◌∙◌, ℕ, map, take, sym, ap, arith}
use Rattle.std.proofs.lemmas.List.{take-map, take_min}
use Rattle.dr_base.specs.declared.key.Kept.{Kept}
use Rattle.dr_base.specs.declared.limits.TheConstants.{RECEIPT_LIMIT}
use Rattle.bodies.proofs.receipt.first_positions.Goals as goal

pub returns : goal.returns
returns c =
    let keys = c.args.keys.now in
    let end = c.min-i-end.ensures in
    let all = c.keys-test.false in
    let up_to = c.keys.auto.i-end in
    c.keys.invariant
    ∙ ap (λ (n : ℕ). map (λ (k : Kept). k.position) (take n keys)) (omega (arith, end, all, up_to))
    ∙ ap (map (λ (k : Kept). k.position)) (take_min RECEIPT_LIMIT keys)
    ∙ sym (take-map (λ (k : Kept). k.position) RECEIPT_LIMIT keys)
