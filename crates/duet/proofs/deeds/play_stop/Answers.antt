use Rattle.std.proofs.Common.{◌∙◌, ap, subst}
use Rattle.dr_ports.specs.Writing.{Writes}
use Rattle.duet.specs.Tally.{counted_of}
use Rattle.duet.proofs.PlayedDeeds.{goes_written}
use Rattle.duet.proofs.Showing.{stop_reply}
use Rattle.duet.proofs.deeds.play_stop.Goals as goal

pub returns-in-Ok : goal.returns-in-Ok
returns-in-Ok g c =
    let t = c.tell-written.ensures in
    let e = c.in-Ok.ensures in
    let reply = stop_reply g.K.Kem.mechanism c.args.duet.sides c.args.stop.now _ e.0 in
    goes_written _ _ _ _ _ _ _ _ c.tell-written.result _ c.unless_failed.ensures (λ v is. e.1)
    (t.counts ∙ ap (λ answer. counted_of c.args.stop.now.side answer c.args.tally.now) e.0)
    (subst (λ bytes. Writes (g.O.Sink.at c.args.out.now) (g.O.Sink.at c.tell-written.new.out) bytes c.tell-written.result) reply t.writes)
