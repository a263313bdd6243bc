use Rattle.dr_base.proofs.Putting.{then_puts}
use Rattle.relay_core.specs.GuardFields.{guard_bytes}
use Rattle.relay_core.proofs.guard_writing.put_keys.Goals as goal

pub returns : goal.returns
unfolding guard_bytes
returns c =
    then_puts c.put-at_poster.ensures
    (then_puts c.put-at_owner_last.ensures (then_puts c.put_u64-at_poster_last.ensures c.put_u64.ensures))
