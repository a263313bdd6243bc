use Rattle.book_store.proofs.Composed.{stay, stay_still}
use Rattle.book_store.proofs.laws.stay_as_they_were.Goals as goal

pub returns-clause-any_moment : goal.returns-clause-any_moment
returns-clause-any_moment g c = λ rows book first still next.
    stay rows book (g.D.Disk.state c.args.start.now) (g.D.Disk.state c.args.mid.now) still (g.D.Disk.state c.args.end.now) first next

pub returns-clause-still : goal.returns-clause-still
returns-clause-still g c = λ rows book still next.
    stay_still rows book (g.D.Disk.state c.args.start.now) (g.D.Disk.state c.args.mid.now) still (g.D.Disk.state c.args.end.now) next
