use Rattle.std.proofs.Common.{Option, subst, sym}
use Rattle.dr_base.specs.Buffer.{Puts}
use Rattle.dr_base.proofs.Putting.{then_puts}
use Rattle.relay_core.specs.GuardFields.{flagged_text}
use Rattle.relay_guard.specs.declared.guard.Guard.{Guard}
use Rattle.relay_core.proofs.guard_writing.put_guard.Goals as goal

pub returns-in-Some : goal.returns-in-Some
unfolding flagged_text
returns-in-Some c =
    subst (λ (guard : Option Guard). Puts c.args.out.now c.put_keys.new.out c.args.at (flagged_text guard) c.put_keys.result)
    (sym c.in-Some.is) (then_puts c.put_u8-at_keys.ensures c.put_keys.ensures)
