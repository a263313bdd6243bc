use Rattle.boxes.specs.Posts.{post_under}
use Rattle.client.proofs.Lawful.Posts.{posts_some}
use Rattle.client.proofs.cores.showing.Core.outbox.Goals as goal

pub returns-clause-some : goal.returns-clause-some
returns-clause-some g c =
    posts_some g.K.Kem.mechanism c.self.inside.session (λ pair. post_under pair.0 pair.1.now) c.self.inside.outbox c.args.at
    c.at.result c.self.invariant.outbox c.at.ensures.packet
