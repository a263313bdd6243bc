use Rattle.book.proofs.Worlds.Moved.{stands_acted, stands_moved}
use Rattle.book.proofs.Worlds.Stood.{peer_first, stands_begun, stands_none}
use Rattle.book.proofs.peers.sessions_have_worlds.Goals as goal

pub returns-clause-none : goal.returns-clause-none
returns-clause-none g c = stands_none g.K.Kem.mechanism

pub returns-clause-begun : goal.returns-clause-begun
returns-clause-begun g c = λ name begin peers rows worlds pair fresh room stands.
    stands_begun g.K.Kem.mechanism name begin peers rows worlds pair fresh room stands

pub returns-clause-peer : goal.returns-clause-peer
returns-clause-peer g c = peer_first g.K.Kem.mechanism

pub returns-clause-acts : goal.returns-clause-acts
returns-clause-acts g c = λ name act kept rows worlds stands here fair.
    stands_acted g.K.Kem.mechanism (c.acts_follow.ensures g.K.Kem.mechanism c.laws.ensures.law) name act kept rows worlds stands
    here fair

pub returns-clause-moves : goal.returns-clause-moves
returns-clause-moves g c = λ name act kept rows worlds stands here fair.
    stands_moved g.K.Kem.mechanism (c.acts_follow.ensures g.K.Kem.mechanism c.laws.ensures.law) name act kept rows worlds stands
    here fair
