use Rattle.std.proofs.Common.{◌≡◌, subst, sym}
use Rattle.dr_base.specs.declared.limits.TheConstants.{PLAIN}
use Rattle.packet.specs.Packet.{Fields}
use Rattle.packet.proofs.Known.{plain_few, text_few}
use Rattle.packet.proofs.view.View.ciphertext.Goals as goal

pub returns-clause-fits : goal.returns-clause-fits
returns-clause-fits c = text_few _ _ c.self.invariant.lawful.text_fits

pub returns-clause-plain : goal.returns-clause-plain
returns-clause-plain c plain =
    plain_few _ _ c.self.invariant.lawful.text_fits (subst (λ (f : Fields). f.version ≡ PLAIN) (sym c.self.view_is) plain)
