use Rattle.std.proofs.Common.{ap, ◌∙◌}
use Rattle.parties.specs.Shuts.{PartyNow}
use Rattle.parties.proofs.Closed.{held_open}
use Rattle.parties.proofs.party.Party.act.Goals as goal

pub perform-requires-clause-open : goal.perform-requires-clause-open
perform-requires-clause-open g c =
    let inside = c.self.inside in
    (held_open g.K.Kem.mechanism inside.client inside.disk inside.shut inside.client.kept
    (ap (λ (p : PartyNow). p.shut) c.self.view_is ∙ c.requires.open) c.self.invariant).is_open

pub perform-requires-clause-ready : goal.perform-requires-clause-ready
perform-requires-clause-ready g c =
    let inside = c.self.inside in
    (held_open g.K.Kem.mechanism inside.client inside.disk inside.shut inside.client.kept
    (ap (λ (p : PartyNow). p.shut) c.self.view_is ∙ c.requires.open) c.self.invariant).ready
