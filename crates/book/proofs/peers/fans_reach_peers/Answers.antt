use Rattle.book.proofs.Worlds.FannedOut.{fans_to_peers}
use Rattle.book.proofs.peers.fans_reach_peers.Goals as goal

pub returns : goal.returns
returns g c = λ text result did worlds stands.
    fans_to_peers g.D.Disk.state g.W.Draws.at g.K.Kem.mechanism
    (c.acts_follow.ensures g.K.Kem.mechanism c.laws.ensures.law) (c.said_is_opened.ensures g.K.Kem.mechanism c.laws.ensures.law)
    text c.args.list.now c.args.old.now c.args.new.now c.args.start.now c.args.now.now c.args.source.now c.args.left.now
    c.is_fair.ensures c.requires.may c.requires.listed worlds stands result did
