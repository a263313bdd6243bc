use Rattle.dr_base.proofs.Putting.{then_puts}
use Rattle.record_fields.proofs.keys.put_receiving.Goals as goal

pub returns-in-Some : goal.returns-in-Some
returns-in-Some c = rw c.in-Some.is (then_puts c.put-at_reach.ensures c.put_u32.ensures)
