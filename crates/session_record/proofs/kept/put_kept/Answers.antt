use Rattle.dr_base.proofs.Putting.{then_puts}
use Rattle.session_record.proofs.kept.put_kept.Goals as goal

pub returns : goal.returns
returns c = then_puts c.put_u16-next.ensures c.put_each.ensures
