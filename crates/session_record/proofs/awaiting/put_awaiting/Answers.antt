use Rattle.std.proofs.Common.{subst}
use Rattle.dr_base.specs.Buffer.{Puts}
use Rattle.dr_base.proofs.Putting.{then_puts}
use Rattle.session_model.specs.States.{State}
use Rattle.session_record.specs.Awaiting.{awaiting_text}
use Rattle.session_record.specs.Versions.{newest}
use Rattle.session_record.proofs.awaiting.put_awaiting.Goals as goal

pub returns : goal.returns
returns g c =
    let count = rw c.positions-positions.ensures.value at c.put_u8-next.ensures in
    let each = rw c.positions-positions.ensures.value at c.put_each.ensures in
    subst (λ (s : State). Puts c.args.out.now c.put_each.new.out c.args.at (awaiting_text newest s.awaiting) c.put_each.result) c.part.view_is
    (then_puts count each)
