use Rattle.dr_base.proofs.Putting.{then_puts}
use Rattle.session_record.proofs.outbox.put_post.Goals as goal

pub returns : goal.returns
returns c = λ position. then_puts c.put_u16-at_packet.ensures c.put.ensures
