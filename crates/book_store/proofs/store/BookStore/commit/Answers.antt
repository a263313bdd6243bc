use Rattle.std.proofs.Common.{◌≤◌, sym, subst, arith}
use Rattle.book_store.proofs.Books.CommitCall.{commits_here, fails_here, marked_here, stands_here}
use Rattle.book_store.proofs.Sound.{book_sound}
use Rattle.book_store.specs.AtRest.{laid_book}
use Rattle.book_store.specs.Layout.{book_end}
use Rattle.book_store.specs.Store.{BookStore, pages_at}
use Rattle.book_store.proofs.store.BookStore.commit.Goals as goal

pub commit-requires : goal.commit-requires
commit-requires g c = record {
  sound = book_sound c.self.inside.desk.rows (g.D.Disk.state c.args.disk.now).size
      (omega (arith, c.size-size.ensures, c.size-size.type_inv))
      (subst (λ (b : BookStore). book_end b.rows ≤ (g.D.Disk.state c.args.disk.now).size) (sym c.self.view_is) c.requires.may.within);
}

pub returns-clause-commits : goal.returns-clause-commits
returns-clause-commits g c = λ standing over.
    let start = g.D.Disk.state c.args.disk.now in
    commits_here c.args.self.now c.self.inside.desk c.commit.new.self c.self.inside.rows.items c.self.inside.staged.items
    c.self.inside.replaced c.self.view_is c.self.inside.lawful c.self.inside.laid c.commit.ensures.rows c.commit.ensures.second
    c.commit.ensures.turn c.commit.ensures.body
    standing start over (g.D.Disk.state c.commit.new.disk) tt tt
    (c.in-Ok.ensures.takes_place (laid_book over.mark standing) (pages_at c.args.self.now.held)
    (stands_here c.args.self.now c.self.inside.desk c.commit.new.self c.self.inside.rows.items c.self.inside.staged.items
    c.self.inside.replaced c.self.view_is c.self.inside.lawful c.self.inside.laid c.commit.ensures.rows c.commit.ensures.second
    c.commit.ensures.turn c.commit.ensures.body
    standing start over))

pub returns-in-Err-clause-commits : goal.returns-in-Err-clause-commits
returns-in-Err-clause-commits g c = λ standing over.
    let start = g.D.Disk.state c.args.disk.now in
    fails_here c.args.self.now c.self.inside.desk c.commit.new.self c.self.inside.rows.items c.self.inside.staged.items
    c.self.inside.replaced c.self.view_is c.self.inside.lawful c.self.inside.laid c.commit.ensures.rows c.commit.ensures.second
    c.commit.ensures.turn c.commit.ensures.body
    standing start over {T = Unit} {U = Unit} (g.D.Disk.state c.commit.new.disk) c.in-Err.call _
    (c.in-Err.ensures.takes_place (laid_book over.mark standing) (pages_at c.args.self.now.held)
    (stands_here c.args.self.now c.self.inside.desk c.commit.new.self c.self.inside.rows.items c.self.inside.staged.items
    c.self.inside.replaced c.self.view_is c.self.inside.lawful c.self.inside.laid c.commit.ensures.rows c.commit.ensures.second
    c.commit.ensures.turn c.commit.ensures.body
    standing start over))

pub returns-clause-marked : goal.returns-clause-marked
returns-clause-marked g c = marked_here c.args.self.now c.self.inside.desk c.commit.new.self c.self.inside.rows.items c.self.inside.staged.items
    c.self.inside.replaced c.self.view_is c.self.inside.lawful c.self.inside.laid c.commit.ensures.rows c.commit.ensures.second
    c.commit.ensures.turn c.commit.ensures.body

pub returns-in-Err-clause-marked : goal.returns-in-Err-clause-marked
returns-in-Err-clause-marked g c = marked_here c.args.self.now c.self.inside.desk c.commit.new.self c.self.inside.rows.items c.self.inside.staged.items
    c.self.inside.replaced c.self.view_is c.self.inside.lawful c.self.inside.laid c.commit.ensures.rows c.commit.ensures.second
    c.commit.ensures.turn c.commit.ensures.body
