use Rattle.client.specs.Syncing.Moments.{moment}
use Rattle.client.proofs.Syncs.Links.{cut_links, ended_links}
use Rattle.client.proofs.histories.syncs_are_links.Goals as goal

pub returns-clause-ended : goal.returns-clause-ended
returns-clause-ended g c = λ k prefix side w replies old new sink wrote result fair syncs known which.
    ended_links k prefix side w known which replies (moment old (g.D.Disk.state c.args.before.now) sink)
    (moment new (g.D.Disk.state c.args.after.now) wrote) result fair syncs

pub returns-clause-cut : goal.returns-clause-cut
returns-clause-cut g c = λ k prefix side w replies fair left_by known which.
    cut_links k prefix side w known which replies (g.D.Disk.state c.args.before.now) (g.D.Disk.state c.args.after.now) fair left_by
