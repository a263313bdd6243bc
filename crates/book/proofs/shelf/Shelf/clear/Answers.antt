use Rattle.std.proofs.Common.{Ok, subst}
use Rattle.book_store.specs.Store.{without_row}
use Rattle.book.specs.Changing.{TakesPlaceOf}
use Rattle.book.specs.RowKeepings.{RowNow}
use Rattle.book.proofs.shelf.Shelf.clear.Goals as goal

pub returns-in-Ok-clause-takes : goal.returns-in-Ok-clause-takes
returns-in-Ok-clause-takes g c =
    subst (λ (s : RowNow). TakesPlaceOf {T = Unit} 0 (without_row s.book.store c.args.at) c.clear_row.new.store
    s.book.store.held (g.D.Disk.state c.args.disk.now) (g.D.Disk.state c.clear_row.new.disk) (Ok tt)) c.self.view_is
    c.in-Ok.ensures
