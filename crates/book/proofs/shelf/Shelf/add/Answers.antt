use Rattle.std.proofs.Common.{List, Ok, ap, subst, sym, ℕ, ◌∙◌}
use Rattle.book_model.specs.Rows.{Row}
use Rattle.book_store.specs.Store.{IsNewName, with_row, writes_at}
use Rattle.session_model.specs.Clients.{Client}
use Rattle.session_record.specs.Record.{record_text}
use Rattle.book.specs.Changing.{TakesPlaceOf}
use Rattle.book.specs.RowKeepings.{RowNow}
use Rattle.book.proofs.shelf.Shelf.add.Goals as goal

pub put_row-requires-clause-name : goal.put_row-requires-clause-name
put_row-requires-clause-name g c =
    subst (λ (n : List ℕ). IsNewName c.self.inside.store c.args.at n)
    (sym (c.copied.ensures ∙ ap (λ (r : Row Client). r.name) c.row.view_is))
    (subst (λ (s : RowNow). IsNewName s.book.store c.args.at c.args.row.name) (sym c.self.view_is) c.requires.name)

pub returns-in-Ok-clause-takes : goal.returns-in-Ok-clause-takes
returns-in-Ok-clause-takes g c =
    let start = g.D.Disk.state c.args.disk.now in
    let end = g.D.Disk.state c.put_row.new.disk in
    subst (λ (s : RowNow). TakesPlaceOf {T = Unit} (writes_at s.book.store c.args.at (record_text c.args.row.kept))
    (with_row s.book.store c.args.at c.args.row.name (record_text c.args.row.kept)) c.put_row.new.store
    s.book.store.held start end (Ok tt)) c.self.view_is
    (subst (λ (r : Row Client). TakesPlaceOf {T = Unit} (writes_at c.self.inside.store c.args.at (record_text r.kept))
    (with_row c.self.inside.store c.args.at r.name (record_text r.kept)) c.put_row.new.store
    c.self.inside.store.held start end (Ok tt)) c.row.view_is
    (subst (λ (n : List ℕ). TakesPlaceOf {T = Unit} (writes_at c.self.inside.store c.args.at (record_text c.row.inside.core))
    (with_row c.self.inside.store c.args.at n (record_text c.row.inside.core)) c.put_row.new.store
    c.self.inside.store.held start end (Ok tt)) c.copied.ensures
    (subst (λ (t : List ℕ). TakesPlaceOf {T = Unit} (writes_at c.self.inside.store c.args.at t)
    (with_row c.self.inside.store c.args.at c.copied.result t) c.put_row.new.store
    c.self.inside.store.held start end (Ok tt))
    (c.write_now-len.ensures.written ∙ ap (λ (x : Client). record_text x) c.core.ensures) c.in-Ok.ensures.takes)))
