use Rattle.dr_base.proofs.Putting.{then_puts}
use Rattle.session_record.proofs.relay.put_keys.Goals as goal

pub returns : goal.returns
returns c =
    then_puts c.put-at_first_poster.ensures
    (then_puts c.put-at_second_owner.ensures (then_puts c.put-at_second_poster.ensures c.put.ensures))
