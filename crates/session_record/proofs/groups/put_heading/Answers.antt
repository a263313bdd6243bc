use Rattle.std.proofs.Common.{subst}
use Rattle.dr_base.specs.Buffer.{Puts}
use Rattle.dr_base.proofs.Putting.{then_puts}
use Rattle.session_model.specs.States.{State}
use Rattle.session_record.specs.Groups.{heading_text}
use Rattle.session_record.specs.Record.{heading_in}
use Rattle.session_record.specs.Versions.{newest}
use Rattle.session_record.proofs.groups.put_heading.Goals as goal

pub returns : goal.returns
returns g c =
    let side = rw c.side_code.ensures at c.put_u8-at_format.ensures in
    let format = rw c.format_code.ensures at c.put_u8-at_session.ensures in
    let version = rw c.code.ensures at c.put_u8-at_side.ensures in
    subst (λ (s : State). Puts c.args.out.now c.put_u32.new.out 0 (heading_text (heading_in newest s)) c.put_u32.result) c.part.view_is
    (then_puts version (then_puts side (then_puts format (then_puts c.put-at_root.ensures (then_puts c.put-at_epoch.ensures c.put_u32.ensures)))))
