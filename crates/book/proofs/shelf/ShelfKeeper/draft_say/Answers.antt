use Rattle.std.proofs.Common.{None, Ok, Option, get_or, subst, sym, ◌∙◌, ◌≡◌}
use Rattle.std.proofs.lemmas.List.{get_or_default}
use Rattle.std.specs.Prelude.{is_some}
use Rattle.book_model.specs.Rows.{Row}
use Rattle.session_model.specs.Clients.{Client, say_check}
use Rattle.session_model.specs.Contents.{content_with}
use Rattle.book.specs.RowKeepings.{RowNow, kept_of, row_keeping}
use Rattle.book.proofs.Stored.{present, present_inside}
use Rattle.book.proofs.shelf.ShelfKeeper.draft_say.Goals as goal

pub draft_say_in-requires-clause-checked : goal.draft_say_in-requires-clause-checked
draft_say_in-requires-clause-checked g c =
    let rows = c.self.inside.rows.items in
    let at = c.self.inside.at in
    let there = subst (λ (s : RowNow). row_keeping.there s) (sym c.self.view_is) c.requires.there in
    let here = present (get_or rows at None) there in
    let lent = c.index_mut-row.ensures.value
    ∙ get_or_default rows at c.index_mut-row.result.now None (present_inside rows at here.0 here.1) in
    let content = content_with c.args.kind c.args.text.now in
    subst (λ (o : Option (Row Client)). say_check (kept_of o) content ≡ Ok (is_some c.args.seed)) (sym lent)
    (subst (λ (s : RowNow). say_check (row_keeping.kept s) content ≡ Ok (is_some c.args.seed)) (sym c.self.view_is)
    c.requires.checked)
