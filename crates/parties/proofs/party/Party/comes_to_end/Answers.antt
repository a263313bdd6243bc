use Rattle.std.proofs.Common.{None, ap, subst, sym, ◌∙◌, ◌≡◌}
use Rattle.dr_disk.specs.MemoryDisks.{state_of}
use Rattle.relay_link.specs.Connections.{boxes_now, kept_before}
use Rattle.sync_model.specs.Scenes.{scene}
use Rattle.client.specs.Syncing.Moments.{moment}
use Rattle.client.specs.Syncing.Parties.{client_party}
use Rattle.parties.specs.Parties.{IsParty, shut_by}
use Rattle.parties.specs.Shuts.{PartyNow}
use Rattle.parties.proofs.Closed.{held_open, is_unshut}
use Rattle.parties.proofs.Synced.{plays_rests}
use Rattle.parties.proofs.party.Party.comes_to_end.Given.{Over}
use Rattle.parties.proofs.party.Party.comes_to_end.Goals as goal

pub meet-requires : goal.meet-requires
meet-requires g c =
    let inside = c.self.inside in
    held_open g.K.Kem.mechanism inside.client inside.disk inside.shut inside.client.kept
    (ap (λ (p : PartyNow). p.shut) c.self.view_is ∙ c.requires.open) c.self.invariant

-- no call had closed it
unshut : (g : Over) (c : goal.Joined-meet g) → c.self.inside.shut ≡ None
unshut g c =
    let inside = c.self.inside in
    is_unshut g.K.Kem.mechanism inside.client.kept inside.disk inside.shut
    (ap (λ (p : PartyNow). p.shut) c.self.view_is ∙ c.requires.open)

pub invariant_of-self : goal.invariant_of-self
invariant_of-self g c =
    let k = g.K.Kem.mechanism in
    let client = c.self.inside.client in
    let new = c.meet.new in
    let p = client_party k c.side_prefix.result.now client.kept in
    let m = scene p (kept_before None) client.kept (boxes_now c.args.relay.now) in
    let before = moment client (state_of c.self.inside.disk) (g.O.Sink.at c.args.out.now) in
    let after = moment new.client (state_of new.disk) (g.O.Sink.at new.out) in
    let rests = plays_rests p c.args.side m before after (boxes_now new.link) c.meet.result c.meet.ensures.plays in
    subst (IsParty k new.client new.disk) (sym (unshut g c))
    (record { is_open = rests.is_open; ready = rests.ready; passes = rests.passes })

pub returns-clause-open : goal.returns-clause-open
returns-clause-open g c =
    let new = c.meet.new in
    ap (shut_by g.K.Kem.mechanism new.client.kept new.disk) (unshut g c)
