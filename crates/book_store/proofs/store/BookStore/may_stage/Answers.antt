use Rattle.std.proofs.Common.{subst}
use Rattle.book_store.proofs.Books.Resting.{rests_over}
use Rattle.book_store.specs.Store.{IsLawfulStore}
use Rattle.book_store.proofs.store.BookStore.may_stage.Goals as goal

pub returns-clause-over : goal.returns-clause-over
returns-clause-over g c =
    rests_over c.args.self.now (subst IsLawfulStore c.self.view_is c.self.invariant) (g.D.Disk.state c.args.disk.now)
    (g.met.D.Disk.lawful c.args.disk.now) c.requires.none c.requires.marked c.requires.at_rest

pub returns-clause-may : goal.returns-clause-may
returns-clause-may g c = record {
  within = c.requires.within;
  standing = c.args.self.now.held;
  over = rests_over c.args.self.now (subst IsLawfulStore c.self.view_is c.self.invariant) (g.D.Disk.state c.args.disk.now)
      (g.met.D.Disk.lawful c.args.disk.now) c.requires.none c.requires.marked c.requires.at_rest;
}
