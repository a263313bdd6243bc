use Rattle.std.proofs.Common.{Bor, Option, sym, subst}
use Rattle.std.specs.Prelude.{option_copied}
use Rattle.dr_base.specs.Buffer.{Puts}
use Rattle.dr_base.proofs.Putting.{then_puts}
use Rattle.session_model.specs.declared.relay_keys.RelayKeys.{RelayKeys}
use Rattle.session_record.specs.Relay.{flagged_text}
use Rattle.session_record.proofs.relay.put_relay.Goals as goal

pub returns-in-Some : goal.returns-in-Some
unfolding flagged_text
returns-in-Some c =
    subst (λ (keys : Option (Bor RelayKeys)). Puts c.args.out.now c.put_keys.new.out c.args.at (flagged_text (option_copied keys)) c.put_keys.result)
    (sym c.in-Some.is) (then_puts c.put_u8-at_keys.ensures c.put_keys.ensures)
