use Rattle.std.proofs.Common.{ap, subst, true, ◌∙◌, ◌≡◌}
use Rattle.book_model.specs.Rows.{Rows, is_full}
use Rattle.session_model.specs.Clients.{Client}
use Rattle.book.specs.RowKeepings.{RowNow}
use Rattle.book.proofs.Places.{full}
use Rattle.book.proofs.shelf.Shelf.free.Goals as goal

pub returns-in-None-clause-free : goal.returns-in-None-clause-free
returns-in-None-clause-free g c =
    subst (λ (rows : Rows Client). is_full rows ≡ true)
    (c.deref.ensures.value ∙ ap (λ (s : RowNow). s.book.rows) c.self.view_is)
    (full c.deref.result.now c.in-None.ensures)
