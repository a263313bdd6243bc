use Rattle.std.proofs.Common.{List, ap, ap₂, ℕ, ◌∙◌, sym}
use Rattle.book_model.specs.Rows.{Rows, under}
use Rattle.session_model.specs.Clients.{Client}
use Rattle.book.specs.RowKeepings.{RowNow}
use Rattle.book.proofs.Places.{under_none}
use Rattle.book.proofs.shelf.Shelf.place.Goals as goal

pub returns-in-None : goal.returns-in-None
returns-in-None g c =
    ap₂ (λ (n : List ℕ) (rows : Rows Client). under n rows) (sym c.as_bytes.ensures.value)
    (sym (c.deref.ensures.value ∙ ap (λ (s : RowNow). s.book.rows) c.self.view_is))
    ∙ under_none c.as_bytes.result.now c.deref.result.now c.in-None.ensures
