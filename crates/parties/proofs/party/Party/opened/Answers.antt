use Rattle.std.proofs.Common.{subst, sym, ◌≡◌}
use Rattle.std.specs.Prelude.{IfOk, IfSome, IsSome}
use Rattle.session_model.specs.Clients.{Client}
use Rattle.parties.specs.Shuts.{PartyNow, Shut, open_party}
use Rattle.parties.proofs.Closed.{opens_left, shut_reads}
use Rattle.parties.proofs.party.Party.opened.Goals as goal

pub reopened-requires-clause-holds : goal.reopened-requires-clause-holds
reopened-requires-clause-holds g c =
    let inside = c.self.inside in
    (shut_reads g.K.Kem.mechanism inside.client inside.disk inside.shut inside.client.kept
    (subst (λ (p : PartyNow). IsSome p.shut) (sym c.self.view_is) c.requires) c.self.invariant).reads

pub returns : goal.returns
returns g c =
    let k = g.K.Kem.mechanism in
    let inside = c.self.inside in
    let reads = (shut_reads k inside.client inside.disk inside.shut inside.client.kept
    (subst (λ (p : PartyNow). IsSome p.shut) (sym c.self.view_is) c.requires) c.self.invariant).reads in
    subst (λ (s : PartyNow). IfOk c.reopened.result (λ (p : PartyNow). IfSome s.shut (λ (left : Shut Client). p ≡ open_party left.left)))
    c.self.view_is
    (opens_left k inside.client.kept inside.disk inside.shut reads c.reopened.result c.reopened.ensures)
