use Rattle.std.proofs.Common.{List, Option, subst, sym, ◌∙◌}
use Rattle.book_store.specs.Shown.{BookRow}
use Rattle.book_store.specs.Staging.{IsStagedOver, MayStage}
use Rattle.book.specs.Changing.{TakesPlaceOf}
use Rattle.book.specs.RowKeepings.{RowNow}
use Rattle.book.proofs.shelf.Shelf.settle_fan.Goals as goal

pub invariant_of-self : goal.invariant_of-self
invariant_of-self g c =
    let may = subst (λ (n : RowNow). MayStage n.book.store (g.D.Disk.state c.args.disk.now)) (sym c.self.view_is) c.requires.may in
    (c.self.invariant.0, c.self.invariant.1 ∙ sym (c.settle.ensures may.standing may.over).rows, c.self.invariant.2)

pub returns-clause-takes : goal.returns-clause-takes
returns-clause-takes g c =
    let start = g.D.Disk.state c.args.disk.now in
    let end = g.D.Disk.state c.settle.new.disk in
    subst (λ (n : RowNow). (standing : List (Option BookRow)) → IsStagedOver n.book.store standing start
    → TakesPlaceOf 0 n.book.store c.settle.new.store standing start end c.settle.result) c.self.view_is c.settle.ensures
