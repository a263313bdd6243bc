use Rattle.std.proofs.Common.{ap, subst}
use Rattle.sync_model.proofs.Asking.{ArePackets}
use Rattle.client.specs.Clients.{ClientNow}
use Rattle.client.specs.Syncing.Parties.{waiting}
use Rattle.client.proofs.Syncs.Parties.{are_packets}
use Rattle.client.proofs.client.Client.may_post.Goals as goal

pub returns-clause-packets : goal.returns-clause-packets
returns-clause-packets g c =
    subst ArePackets (ap (λ (n : ClientNow). waiting n.kept) c.self.view_is)
    (are_packets g.K.Kem.mechanism c.self.inside.core.state c.self.inside.core.outbox c.lawful.ensures.kept.outbox c.lawful.ensures.packets)
