use Rattle.std.proofs.Common.{Err, Ok, ap, refl, subst, sym}
use Rattle.book.specs.Books.{BookNow}
use Rattle.book.specs.declared.refusals.FanRefusal.{FanRefusal}
use Rattle.book.specs.declared.refusals.FanRefusal.TheVariants.{Nobody, Peer as PeerOf, StoreFault as Faulted}
use Rattle.client.specs.declared.refusals.SayRefusal.{SayRefusal}
use Rattle.hub.specs.Held.{IsHeld}
use Rattle.hub.specs.Leaving.{IsLeftOf}
use Rattle.hub.specs.Plays.{IsRefusalOf, IsRefusedAt}
use Rattle.hub.proofs.Ended.{acknowledged_of, fans_as, if_left, leaves_of, left_as, listed_as, not_nobody, refused_at}
use Rattle.hub.proofs.hub.Hub.fan_stopped.Goals as goal

pub returns-in-Ok-fan-clause-left : goal.returns-in-Ok-fan-clause-left
returns-in-Ok-fan-clause-left g c =
    let held = subst (λ (b : BookNow). IsHeld b.store.rows b c.self.inside.disk) c.self.view_is c.self.invariant in
    let fans = fans_as g.K.Kem.mechanism c.args.peers c.args.after c.args.self c.fan.new.self c.self.inside.disk c.fan.new.disk
    c.in-Ok.draws c.fan.new.draws c.self.inside.book c.everyone-list.result c.stop_after.new.self (Ok tt) (Ok tt) c.self.view_is
    c.everyone-list.ensures.list c.stop_after.ensures refl c.in-Ok-fan.ensures in
    acknowledged_of g.K.Kem.mechanism c.args.peers c.args.after c.args.self c.fan.new.self c.self.inside.disk c.fan.new.disk
    c.in-Ok.draws c.fan.new.draws c.args.mode c.requires.rows held c.in-Ok.ensures c.requires.count c.requires.lawful fans
    c.go_on.ensures.told

pub recovered-requires-clause-leaves : goal.recovered-requires-clause-leaves
recovered-requires-clause-leaves g c =
    let k = g.K.Kem.mechanism in
    let call = c.in-Err-StoreFault.field-0-0 in
    let held = subst (λ (b : BookNow). IsHeld b.store.rows b c.self.inside.disk) c.self.view_is c.self.invariant in
    let listed = listed_as k c.args.peers c.args.after c.args.self c.fan.new.self c.self.inside.disk c.fan.new.disk c.in-Ok.draws
    c.fan.new.draws c.self.inside.book c.everyone-list.result c.self.view_is c.everyone-list.ensures.list
    c.everyone-list.ensures.listed in
    let fans = fans_as k c.args.peers c.args.after c.args.self c.fan.new.self c.self.inside.disk c.fan.new.disk
    c.in-Ok.draws c.fan.new.draws c.self.inside.book c.everyone-list.result c.stop_after.new.self
    (Err c.in-Err-StoreFault.field-0) (Err (Faulted call)) c.self.view_is c.everyone-list.ensures.list c.stop_after.ensures
    (ap (λ (f : FanRefusal). Err f) c.in-Err-StoreFault.field-0-is) c.in-Err-StoreFault.ensures in
    leaves_of k c.args.peers c.args.after c.args.self c.fan.new.self c.self.inside.disk c.fan.new.disk c.in-Ok.draws
    c.fan.new.draws c.args.mode c.requires.rows held c.in-Ok.ensures c.laws.ensures.law c.resting_books.ensures
    c.requires.count c.requires.lawful c.requires.few listed call fans

pub returns-in-Err-StoreFault-clause-left : goal.returns-in-Err-StoreFault-clause-left
returns-in-Err-StoreFault-clause-left g c =
    let k = g.K.Kem.mechanism in
    let call = c.in-Err-StoreFault.field-0-0 in
    let held = subst (λ (b : BookNow). IsHeld b.store.rows b c.self.inside.disk) c.self.view_is c.self.invariant in
    let listed = listed_as k c.args.peers c.args.after c.args.self c.fan.new.self c.self.inside.disk c.fan.new.disk c.in-Ok.draws
    c.fan.new.draws c.self.inside.book c.everyone-list.result c.self.view_is c.everyone-list.ensures.list
    c.everyone-list.ensures.listed in
    let fans = fans_as k c.args.peers c.args.after c.args.self c.fan.new.self c.self.inside.disk c.fan.new.disk
    c.in-Ok.draws c.fan.new.draws c.self.inside.book c.everyone-list.result c.stop_after.new.self
    (Err c.in-Err-StoreFault.field-0) (Err (Faulted call)) c.self.view_is c.everyone-list.ensures.list c.stop_after.ensures
    (ap (λ (f : FanRefusal). Err f) c.in-Err-StoreFault.field-0-is) c.in-Err-StoreFault.ensures in
    if_left c.recovered.result _ _
    (λ left. IsLeftOf k c.args.peers c.args.after c.args.mode left.acknowledged left.book.rows)
    (λ left opened cut. left_as k c.args.peers c.args.after c.args.self c.fan.new.self c.self.inside.disk c.fan.new.disk
    c.in-Ok.draws c.fan.new.draws c.args.mode c.requires.rows held c.in-Ok.ensures c.laws.ensures.law c.resting_books.ensures
    c.requires.count c.requires.lawful c.requires.few listed call fans left.acknowledged left.book.rows opened cut)
    c.recovered.ensures.rows c.recovered.ensures.cut

pub returns-in-Err-Peer-clause-stops : goal.returns-in-Err-Peer-clause-stops
returns-in-Err-Peer-clause-stops g c =
    let k = g.K.Kem.mechanism in
    let at = c.in-Err-Peer.at in
    let refusal = c.in-Err-Peer.refusal in
    let held = subst (λ (b : BookNow). IsHeld b.store.rows b c.self.inside.disk) c.self.view_is c.self.invariant in
    let fans = fans_as k c.args.peers c.args.after c.args.self c.fan.new.self c.self.inside.disk c.fan.new.disk
    c.in-Ok.draws c.fan.new.draws c.self.inside.book c.everyone-list.result c.stop_after.new.self
    (Err c.in-Err-Peer.field-0) (Err (PeerOf at refusal)) c.self.view_is c.everyone-list.ensures.list c.stop_after.ensures
    (ap (λ (f : FanRefusal). Err f) c.in-Err-Peer.field-0-is) c.in-Err-Peer.ensures in
    subst (λ q. IsRefusedAt k c.args.peers q c.refusal_of.result) (sym c.in-Err-Peer.at-is)
    (refused_at k c.args.peers c.args.after c.args.self c.fan.new.self c.self.inside.disk c.fan.new.disk c.in-Ok.draws
    c.fan.new.draws c.args.mode c.requires.rows held c.in-Ok.ensures at refusal c.refusal_of.result fans
    (subst (λ (r : SayRefusal). IsRefusalOf r c.refusal_of.result) c.in-Err-Peer.refusal-is c.refusal_of.ensures))

pub unreachable-requires-in-Err-Nobody : goal.unreachable-requires-in-Err-Nobody
unreachable-requires-in-Err-Nobody g c =
    let k = g.K.Kem.mechanism in
    let held = subst (λ (b : BookNow). IsHeld b.store.rows b c.self.inside.disk) c.self.view_is c.self.invariant in
    let fans = fans_as k c.args.peers c.args.after c.args.self c.fan.new.self c.self.inside.disk c.fan.new.disk
    c.in-Ok.draws c.fan.new.draws c.self.inside.book c.everyone-list.result c.stop_after.new.self
    (Err c.in-Err-Nobody.field-0) (Err Nobody) c.self.view_is c.everyone-list.ensures.list c.stop_after.ensures
    (ap (λ (f : FanRefusal). Err f) c.in-Err-Nobody.field-0-is) c.in-Err-Nobody.ensures in
    not_nobody k c.args.peers c.args.after c.args.self c.fan.new.self c.self.inside.disk c.fan.new.disk c.in-Ok.draws
    c.fan.new.draws c.args.mode c.requires.rows held c.in-Ok.ensures c.requires.first fans
