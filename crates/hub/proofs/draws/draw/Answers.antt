use Rattle.std.proofs.Common.{◌++◌, codes, ◌∙◌, ap}
use Rattle.hmac_hkdf.specs.Hmac.{hmac_of}
use Rattle.dr_model.specs.Machines.Draws.{drawn}
use Rattle.hub.proofs.draws.draw.Goals as goal

pub returns : goal.returns
unfolding drawn
returns c =
    c.finish.ensures _ _ (c.update-2.ensures _ _ (c.update.ensures _ _ c.new-mac.ensures))
    ∙ ap (λ number. hmac_of c.args.key.now.bytes (codes "duet draw" ++ number)) c.to_le_bytes.ensures
