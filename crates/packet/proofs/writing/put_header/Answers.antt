use Rattle.packet.specs.Packet.{header_of}
use Rattle.dr_base.proofs.Putting.{then_puts}
use Rattle.packet.proofs.writing.put_header.Goals as goal

pub returns : goal.returns
unfolding header_of
returns c =
    then_puts
    (then_puts (then_puts (then_puts (then_puts (then_puts (then_puts c.put_version-at_session.ensures c.put-at_epoch.ensures) c.put_u32-at_previous.ensures) c.put_u32-at_index.ensures) c.put_u32-at_size.ensures)
    c.put_len-at_agreement.ensures) c.put-at_text_len.ensures) c.put_len.ensures
