use Rattle.std.proofs.Common.{subst}
use Rattle.dr_base.specs.Buffer.{Puts}
use Rattle.dr_base.proofs.Putting.{then_puts}
use Rattle.session_model.specs.States.{State}
use Rattle.session_record.specs.Groups.{keys_text}
use Rattle.session_record.specs.Record.{keys_in}
use Rattle.session_record.proofs.groups.put_keys.Goals as goal

pub returns : goal.returns
returns g c =
    let kept = rw c.kept.ensures.keys at c.put_kept.ensures in
    subst (λ (s : State). Puts c.args.out.now c.put_kept.new.out c.args.at (keys_text (keys_in s)) c.put_kept.result) c.part.view_is
    (then_puts c.put_phase-at_previous.ensures (then_puts c.put_u32-at_receiving.ensures (then_puts c.put_receiving-at_kept.ensures kept)))
