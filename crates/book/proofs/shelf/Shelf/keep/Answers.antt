use Rattle.std.proofs.Common.{Err, None, Ok, Option, Some, ap, false, get_or, refl, subst, sym, true, ◌∙◌, ◌≡◌}
use Rattle.std.proofs.Math.ListN.{set}
use Rattle.std.proofs.lemmas.List.{get_or-set_same, get_or_default, set-get_or}
use Rattle.book_model.specs.Rows.{Row, Rows}
use Rattle.book_store.specs.Store.{with_row, writes_at}
use Rattle.session_model.specs.Clients.{Client}
use Rattle.session_record.specs.Record.{record_text}
use Rattle.client.specs.Acting.{IsKeeperAct}
use Rattle.client.specs.Drafting.{drafted_answer, drafted_client, drafted_step}
use Rattle.client.specs.Keepings.{IsKeeperOpen}
use Rattle.client.specs.Outcomes.{kept_as}
use Rattle.client.proofs.Kept.{kept_act, lost_act}
use Rattle.dr_model.specs.Machines.Steps.{step}
use Rattle.book.specs.Books.{BookNow}
use Rattle.book.specs.Changing.{TakesPlaceOf}
use Rattle.book.specs.RowKeepings.{RowNow, kept_of, known_name, name_of, row_keeping, with_kept}
use Rattle.book.proofs.Kept.{kept_by, lost_by, same_place}
use Rattle.book.specs.Rows.{stored_row}
use Rattle.book.proofs.Only.{held_at}
use Rattle.book.proofs.Stored.{present, present_inside}
use Rattle.book.proofs.shelf.Shelf.keep.Goals as goal

pub returns-in-Ok : goal.returns-in-Ok
returns-in-Ok g c =
    let state = g.D.Disk.state in
    let start = state c.args.disk.now in
    let end = state c.keep_row.new.disk in
    let s = c.self.inside in
    let rows = s.rows.items in
    let draft = c.args.draft in
    let old : BookNow = record { rows = rows; store = s.store; closed = s.closed } in
    let was : RowNow = record { book = old; at = s.at } in
    let opened = subst (λ (n : RowNow). IsKeeperOpen row_keeping n start) (sym c.self.view_is) c.requires.open in
    let here = present (get_or rows s.at None) opened.1.there in
    let inside = present_inside rows s.at here.0 here.1 in
    let lent = c.index_mut-row.ensures.value ∙ get_or_default rows s.at c.index_mut-row.result.now None inside ∙ here.1 in
    let after = drafted_client here.0.kept draft in
    let takes = subst (λ (o : Option (Row Client)). TakesPlaceOf {T = Unit}
    (writes_at s.store s.at (record_text (drafted_client (kept_of o) draft)))
    (with_row s.store s.at (known_name (name_of o)) (record_text (drafted_client (kept_of o) draft)))
    c.keep_row.new.store s.store.held start end (Ok tt)) lent c.in-Ok.ensures.takes in
    let next = c.in-Ok.ensures.next ∙ ap (λ (o : Option (Row Client)). with_kept o (drafted_client (kept_of o) draft)) lent in
    let is : RowNow = record {
      book = record { rows = set rows s.at c.keep_row.new.row; store = c.keep_row.new.store; closed = s.closed };
      at = s.at;
    } in
    subst (λ (n : RowNow). IsKeeperAct row_keeping state (Ok (drafted_step (row_keeping.kept n) draft)) n is c.args.disk.now
    c.keep_row.new.disk
    (kept_as (drafted_answer draft) (Ok tt))) c.self.view_is
    (subst (λ (x : Client). IsKeeperAct row_keeping state (Ok (step (drafted_answer draft) (drafted_client x draft))) was is
    c.args.disk.now c.keep_row.new.disk (kept_as (drafted_answer draft) (Ok tt))) (sym (ap kept_of here.1))
    (kept_act row_keeping state (drafted_answer draft) after was is c.args.disk.now c.keep_row.new.disk
    c.requires.effect opened.0 opened.0
    (ap kept_of (get_or-set_same rows s.at c.keep_row.new.row None inside ∙ next))
    (kept_by c.resting_books.ensures old s.at here.0 after start end (g.met.D.Disk.lawful c.args.disk.now)
    (g.met.D.Disk.lawful c.keep_row.new.disk) opened.1.book here.1 c.keep_row.new.store is refl refl
    (ap (λ (o : Option (Row Client)). set rows s.at o) next) takes)
    (λ all. (takes.went.calls.went.fate all).1)))

pub returns-in-Err : goal.returns-in-Err
returns-in-Err g c =
    let state = g.D.Disk.state in
    let start = state c.args.disk.now in
    let end = state c.keep_row.new.disk in
    let s = c.self.inside in
    let rows = s.rows.items in
    let draft = c.args.draft in
    let old : BookNow = record { rows = rows; store = s.store; closed = s.closed } in
    let was : RowNow = record { book = old; at = s.at } in
    let opened = subst (λ (n : RowNow). IsKeeperOpen row_keeping n start) (sym c.self.view_is) c.requires.open in
    let here = present (get_or rows s.at None) opened.1.there in
    let inside = present_inside rows s.at here.0 here.1 in
    let lent = c.index_mut-row.ensures.value ∙ get_or_default rows s.at c.index_mut-row.result.now None inside ∙ here.1 in
    let after = drafted_client here.0.kept draft in
    let takes = subst (λ (o : Option (Row Client)). TakesPlaceOf {T = Unit}
    (writes_at s.store s.at (record_text (drafted_client (kept_of o) draft)))
    (with_row s.store s.at (known_name (name_of o)) (record_text (drafted_client (kept_of o) draft)))
    c.keep_row.new.store s.store.held start end (Err c.in-Err.fault)) lent c.in-Err.ensures.takes in
    let same = ap (λ (o : Option (Row Client)). set rows s.at o) (c.in-Err.ensures.keeps ∙ lent ∙ sym here.1)
    ∙ set-get_or rows s.at None in
    let is : RowNow = record {
      book = record {
        rows = set rows s.at c.keep_row.new.row;
        store = c.keep_row.new.store;
        closed = Some c.in-Err.fault.call;
      };
      at = s.at;
    } in
    subst (λ (n : RowNow). IsKeeperAct row_keeping state (Ok (drafted_step (row_keeping.kept n) draft)) n is c.args.disk.now
    c.keep_row.new.disk
    (kept_as (drafted_answer draft) (Err c.in-Err.fault.call))) c.self.view_is
    (subst (λ (x : Client). IsKeeperAct row_keeping state (Ok (step (drafted_answer draft) (drafted_client x draft))) was is
    c.args.disk.now c.keep_row.new.disk (kept_as (drafted_answer draft) (Err c.in-Err.fault.call))) (sym (ap kept_of here.1))
    (lost_act row_keeping state (drafted_answer draft) after was is c.args.disk.now c.keep_row.new.disk
    c.requires.effect opened.0 c.in-Err.fault.call refl
    (ap (λ (l : Rows Client). kept_of (get_or l s.at None)) same)
    (same_place (row_keeping.place is) (row_keeping.place was) refl takes.rows
    (ap (λ (l : Rows Client). name_of (get_or l s.at None)) same) (ap (λ (l : Rows Client). set l s.at None) same))
    (lost_by c.resting_books.ensures old s.at here.0 after start end (g.met.D.Disk.lawful c.args.disk.now)
    (g.met.D.Disk.lawful c.keep_row.new.disk) opened.1.book here.1 c.keep_row.new.store c.in-Err.fault takes)
    (λ all. let e : false ≡ true = (takes.went.calls.went.fate all).0 in cc)))

pub keep_row-requires-clause-here : goal.keep_row-requires-clause-here
keep_row-requires-clause-here g c =
    let s = c.self.inside in
    let opened = subst (λ (n : RowNow). IsKeeperOpen row_keeping n (g.D.Disk.state c.args.disk.now)) (sym c.self.view_is) c.requires.open in
    let here = present (get_or s.rows.items s.at None) opened.1.there in
    held_at s.rows.items s.store opened.1.book.holds opened.1.book.rests.marked s.at
    ∙ ap stored_row (sym (c.index_mut-row.ensures.value
    ∙ get_or_default s.rows.items s.at c.index_mut-row.result.now None (present_inside s.rows.items s.at here.0 here.1)))
