use Rattle.dr_base.proofs.Putting.{then_puts}
use Rattle.record_fields.proofs.keys.put_own.Goals as goal

pub returns : goal.returns
returns c =
    rw (← c.as_slice.ensures.value, ← c.as_slice-2.ensures.value)
    (then_puts c.put-at_agreement.ensures (then_puts c.put-at_chain.ensures (then_puts c.put-at_sent.ensures c.put_u32.ensures)))
