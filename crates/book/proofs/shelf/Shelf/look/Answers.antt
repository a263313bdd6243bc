use Rattle.std.proofs.Common.{List, None, Some, ap, ap₂, get_or, subst, sym, ℕ, ◌∙◌}
use Rattle.std.proofs.lemmas.List.{get_or_default}
use Rattle.book_model.specs.Rows.{Rows, under}
use Rattle.session_model.specs.Clients.{Client}
use Rattle.book.specs.Naming.{IsPlaceOf}
use Rattle.book.specs.RowKeepings.{RowNow, kept_of}
use Rattle.book.proofs.Places.{under_at, under_none}
use Rattle.book.proofs.Stepped.{row_of}
use Rattle.book.proofs.Stored.{present_inside}
use Rattle.book.proofs.shelf.Shelf.look.Goals as goal

pub returns-in-None : goal.returns-in-None
returns-in-None g c =
    ap₂ (λ (n : List ℕ) (rows : Rows Client). under n rows) (sym c.as_bytes.ensures.value)
    (sym (c.deref.ensures.value ∙ ap (λ (s : RowNow). s.book.rows) c.self.view_is))
    ∙ under_none c.as_bytes.result.now c.deref.result.now c.in-None.ensures

pub returns-in-Some : goal.returns-in-Some
returns-in-Some g c =
    let rows = c.self.inside.rows.items in
    let at = c.in-Some.at in
    let place = subst (λ (l : Rows Client). IsPlaceOf c.as_bytes.result.now l at) c.deref.ensures.value c.in-Some.ensures in
    let here = row_of c.as_bytes.result.now (get_or rows at None) place.named in
    let lent = c.index.ensures ∙ get_or_default rows at c.index.result.now None (present_inside rows at here.0 here.1) ∙ here.1 in
    ap₂ (λ (n : List ℕ) (l : Rows Client). under n l) (sym c.as_bytes.ensures.value) (sym (ap (λ (s : RowNow). s.book.rows) c.self.view_is))
    ∙ under_at c.as_bytes.result.now rows at here.0 place here.1
    ∙ ap (λ (x : Client). Some x) (sym (c.core_of.ensures ∙ ap kept_of lent))
