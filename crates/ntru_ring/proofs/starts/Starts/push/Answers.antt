use Rattle.std.proofs.Common.{arith}
use Rattle.ntru_ring.proofs.Rings.Powers.{total_pushed}
use Rattle.ntru_ring.proofs.starts.Starts.push.Goals as goal

pub returns-clause-total : goal.returns-clause-total
returns-clause-total c =
    let s = c.args.self.now in
    λ row e. total_pushed row s.places s.count c.args.start c.args.times c.requires.times c.requires.start (omega (arith, s.length, c.requires.room)) e s.within
