use Rattle.std.proofs.Common.{subst}
use Rattle.dr_base.specs.Buffer.{Puts}
use Rattle.dr_base.proofs.Putting.{then_puts}
use Rattle.boxes.specs.Parts.{Part, part_text}
use Rattle.boxes.proofs.part.put_part.Goals as goal

pub returns : goal.returns
returns c =
    subst (λ (part : Part). Puts c.args.out.now c.put.new.out c.args.at (part_text part) c.put.result) c.part.view_is
    (then_puts (then_puts c.put_u32-at_number.ensures c.put-at_bytes.ensures) c.put.ensures)
