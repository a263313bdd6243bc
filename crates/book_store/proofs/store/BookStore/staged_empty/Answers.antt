use Rattle.std.proofs.Common.{subst}
use Rattle.book_store.proofs.Books.EmptyStaged.{over_empty}
use Rattle.book_store.specs.Store.{IsLawfulStore}
use Rattle.book_store.proofs.store.BookStore.staged_empty.Goals as goal

pub returns : goal.returns
returns g c = λ standing over.
    over_empty c.args.self.now (subst IsLawfulStore c.self.view_is c.self.invariant) c.args.row c.requires.row c.requires.once
    standing (g.D.Disk.state c.args.disk.now) over
