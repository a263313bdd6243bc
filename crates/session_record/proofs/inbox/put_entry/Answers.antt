use Rattle.dr_base.proofs.Putting.{then_puts}
use Rattle.session_record.proofs.inbox.put_entry.Goals as goal

pub returns : goal.returns
returns c =
    then_puts c.put_u32-at_index.ensures (then_puts c.put_u32-at_kind.ensures (then_puts c.put_u8-at_size.ensures (then_puts c.put_u16-at_text.ensures c.put.ensures)))
