use Rattle.std.proofs.Common.{List, [], ap, subst, sym, ℕ, ◌∙◌}
use Rattle.book_model.specs.Rows.{Row}
use Rattle.book_store.specs.Store.{IsNewName}
use Rattle.session_model.specs.Clients.{Client}
use Rattle.session_record.specs.Record.{record_text}
use Rattle.book.specs.Rows.{stored_row}
use Rattle.book.proofs.Counted.{inside, new_name}
use Rattle.book.proofs.keeping.keep_row.Goals as goal

pub put_row-requires-clause-row : goal.put_row-requires-clause-row
put_row-requires-clause-row g c =
    inside c.args.store.now c.args.at c.in-Some.row.name (record_text c.in-Some.row.kept) []
    c.requires.ready.marked c.requires.ready.dropped (c.requires.here ∙ ap stored_row c.in-Some.is)

pub put_row-requires-clause-name : goal.put_row-requires-clause-name
put_row-requires-clause-name g c =
    subst (λ (n : List ℕ). IsNewName c.args.store.now c.args.at n)
    (sym (c.copied.ensures ∙ ap (λ (r : Row Client). r.name) c.row.view_is))
    (new_name c.args.store.now c.args.at c.in-Some.row.name (record_text c.in-Some.row.kept) []
    c.requires.ready.marked c.requires.ready.dropped (c.requires.here ∙ ap stored_row c.in-Some.is))
