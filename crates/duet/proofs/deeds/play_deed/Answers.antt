use Rattle.std.proofs.Common.{◌∙◌, ap}
use Rattle.duet.specs.Replies.{closed_line}
use Rattle.duet.proofs.PlayedDeeds.{goes_barred, goes_freely, not_barred}
use Rattle.duet.proofs.deeds.play_deed.Goals as goal

pub returns-in-Some : goal.returns-in-Some
returns-in-Some g c =
    goes_barred g.K.Kem.mechanism _ _ _ _ _ c.in-Some.call _ c.write_line-written.result _ c.in-Some.ensures
    (c.closed_line.ensures ∙ ap (λ side. closed_line side c.in-Some.call) c.side.ensures) c.unless_failed.ensures c.write_line-written.ensures

pub returns-in-None : goal.returns-in-None
returns-in-None g c =
    goes_freely g.K.Kem.mechanism _ _ _ _ _ _ _ (not_barred _ c.in-None.ensures) c.play_freely.ensures
