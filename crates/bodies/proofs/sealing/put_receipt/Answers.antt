use Rattle.std.proofs.Common.{◌∙◌, List, Option, Some, ap, sym, subst}
use Rattle.dr_base.specs.Buffer.{Puts}
use Rattle.dr_base.specs.declared.position.Position.{Position}
use Rattle.dr_base.proofs.Putting.{then_puts}
use Rattle.bodies.specs.Receipts.{Receipt, receipt_text}
use Rattle.bodies.proofs.sealing.put_receipt.Goals as goal

pub returns-in-Some : goal.returns-in-Some
returns-in-Some c =
    let list = c.as_slice-list.ensures.value in
    let made : List Position → Receipt = λ l. record { bound = c.receipt.inside.bound; listed = l } in
    let out = c.put_positions.new.out in
    let all : Puts c.args.out.now c.put_positions.new.out c.args.at (receipt_text (Some (made c.as_slice-list.result.now))) c.put_positions.result =
    then_puts c.put_u8-at_bound.ensures
    (then_puts c.put_position-at_count.ensures (then_puts c.put_u8-at_list.ensures c.put_positions.ensures)) in
    subst (λ (o : Option Receipt). Puts c.args.out.now c.put_positions.new.out c.args.at (receipt_text o) c.put_positions.result)
    (ap Some (ap made list ∙ c.receipt.view_is) ∙ sym c.in-Some.is) all
