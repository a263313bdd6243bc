use Rattle.std.proofs.Common.{◌∙◌, ◌+◌, ◌*◌, ℕ, Option, Some, length, ap, sym}
use Rattle.bodies.specs.Receipts.{Receipt, receipt_text}
use Rattle.bodies.proofs.Lengths.{length-receipt}
use Rattle.bodies.proofs.receipt.receipt_len.Goals as goal

pub returns-in-Some-clause-value : goal.returns-in-Some-clause-value
returns-in-Some-clause-value c =
    let told : Receipt = record { bound = c.receipt.inside.bound; listed = c.receipt.inside.listed.items } in
    ap (λ (n : ℕ). 10 + 8 * n) c.len.ensures.value ∙ sym (length-receipt told)
    ∙ ap (λ (o : Option Receipt). length (receipt_text o)) (ap Some c.receipt.view_is ∙ sym c.in-Some.is)
