use Rattle.std.proofs.Common.{List, Option, subst}
use Rattle.book_store.specs.Committing.{StagesRow}
use Rattle.book_store.specs.Shown.{BookRow}
use Rattle.book_store.specs.Staging.{IsStagedOver}
use Rattle.book.specs.RowKeepings.{RowNow}
use Rattle.book.proofs.shelf.Shelf.stage_at.Goals as goal

pub returns-clause-stages : goal.returns-clause-stages
returns-clause-stages g c =
    let start = g.D.Disk.state c.args.disk.now in
    let end = g.D.Disk.state c.stage_said.new.disk in
    subst (λ (n : RowNow). (standing : List (Option BookRow)) → IsStagedOver n.book.store standing start
    → StagesRow c.stage_said.new.store standing start end c.stage_said.result) c.self.view_is c.stage_said.ensures.stages
