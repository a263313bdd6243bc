use Rattle.dr_base.proofs.Putting.{then_puts}
use Rattle.session_record.proofs.awaiting.put_one.Goals as goal

pub returns : goal.returns
returns c = then_puts c.put_u32-at_index.ensures c.put_u32.ensures
