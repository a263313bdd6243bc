use Rattle.std.proofs.Common.{Err, List, None, Ok, Option, Result, Some, ap, get_or, refl, subst, sym, ℕ, ◌∙◌, ◌≡◌}
use Rattle.std.specs.Prelude.{IsSome}
use Rattle.std.proofs.Math.ListN.{set}
use Rattle.book_model.specs.Rows.{under}
use Rattle.book_store.specs.Store.{IsNewName, with_row, writes_at}
use Rattle.book_store.specs.declared.errors.StoreFault.{StoreFault}
use Rattle.relay_wire.specs.Names.{is_name}
use Rattle.session_model.specs.Clients.{Client}
use Rattle.session_record.specs.Record.{record_text}
use Rattle.client.specs.Beginning.{begin_of, begun_client}
use Rattle.client.specs.Cores.{BeginsCore}
use Rattle.client.specs.declared.refusals.CoreBeginError.{CoreBeginError}
use Rattle.book.specs.Beginning.{HasPlaceFor}
use Rattle.book.specs.Books.{BookNow, IsBookReady}
use Rattle.book.specs.Changing.{TakesPlaceOf}
use Rattle.book.specs.Naming.{IsFree, IsPlaceOf}
use Rattle.book.proofs.Begun.{begun_step, fresh_name, pairless_step, put_first, taken_step}
use Rattle.book.proofs.Only.{held_at}
use Rattle.book.proofs.Places.{under_at}
use Rattle.book.proofs.Stepped.{row_of}
use Rattle.book.proofs.book.Book.begin.Goals as goal

pub returns-in-Some-place-clause-begins : goal.returns-in-Some-place-clause-begins
returns-in-Some-place-clause-begins g c =
    let old = c.args.self.now in
    let at = c.in-Some-place.field-0 in
    let is_open = sym (ap (λ (b : BookNow). b.closed) c.self.view_is) ∙ sym c.closed.ensures ∙ c.in_default.is in
    let lawful = ap is_name (sym c.as_bytes.ensures.value) ∙ sym c.in-Some-new.ensures.variant in
    let place = subst (λ (b : BookNow). IsPlaceOf c.args.name.now b.rows at) c.self.view_is c.in-Some-place.ensures in
    let here = row_of c.args.name.now (get_or old.rows at None) place.named in (
      is_open,
      lawful,
      subst (λ (o : Option Client). IsSome o) (sym (under_at c.args.name.now old.rows at here.0 place here.1))
          refl,
      (refl, refl),
    )

pub returns-in-Some-place-clause-steps : goal.returns-in-Some-place-clause-steps
returns-in-Some-place-clause-steps g c =
    let old = c.args.self.now in
    let at = c.in-Some-place.field-0 in
    let is_open = sym (ap (λ (b : BookNow). b.closed) c.self.view_is) ∙ sym c.closed.ensures ∙ c.in_default.is in
    let lawful = ap is_name (sym c.as_bytes.ensures.value) ∙ sym c.in-Some-new.ensures.variant in
    let place = subst (λ (b : BookNow). IsPlaceOf c.args.name.now b.rows at) c.self.view_is c.in-Some-place.ensures in
    let here = row_of c.args.name.now (get_or old.rows at None) place.named in
    taken_step g.K.Kem.mechanism c.args.name.now (begin_of c.args.side c.args.format c.args.key.now) old old here.0.kept is_open lawful
    (under_at c.args.name.now old.rows at here.0 place here.1) refl

pub returns-in-Err-NoPair-clause-steps : goal.returns-in-Err-NoPair-clause-steps
returns-in-Err-NoPair-clause-steps g c =
    let k = g.K.Kem.mechanism in
    let begin = begin_of c.args.side c.args.format c.args.key.now in
    let old = c.args.self.now in
    let is_open = sym (ap (λ (b : BookNow). b.closed) c.self.view_is) ∙ sym c.closed.ensures ∙ c.in_default.is in
    let lawful = ap is_name (sym c.as_bytes.ensures.value) ∙ sym c.in-Some-new.ensures.variant in
    let place : HasPlaceFor c.args.name.now old c.in-Some-free.at = record {
      is_open = is_open;
      lawful = lawful;
      fresh = subst (λ (b : BookNow). under c.args.name.now b.rows ≡ None) c.self.view_is c.in_default-place.ensures;
      free = subst (λ (b : BookNow). IsFree b.rows c.in-Some-free.at) c.self.view_is c.in-Some-free.ensures.free;
    } in
    pairless_step k c.args.name.now begin old old c.in-Some-free.at place
    (subst (λ (e : CoreBeginError). BeginsCore k begin (Err e)) c.in-Err-NoPair.field-0-is c.in-Err-NoPair.ensures) refl

pub add-requires-clause-name : goal.add-requires-clause-name
add-requires-clause-name g c =
    let is_open = sym c.closed.ensures ∙ c.in_default.is in
    let book = c.self.inside.shelf.book in
    let ready = subst (λ (b : BookNow). b.closed ≡ None → IsBookReady b (g.D.Disk.state c.args.disk.now)) (sym c.self.view_is)
    c.requires is_open in
    subst (λ (n : List ℕ). IsNewName book.store c.in-Some-free.at n) (sym (c.in-Some-new.ensures.value ∙ c.as_bytes.ensures.value))
    (fresh_name book.rows book.store c.args.name.now c.in-Some-free.at ready.holds
    (held_at book.rows book.store ready.holds ready.rests.marked) c.in_default-place.ensures)

pub returns-in-Ok-add-clause-begins : goal.returns-in-Ok-add-clause-begins
returns-in-Ok-add-clause-begins g c =
    let k = g.K.Kem.mechanism in
    let begin = begin_of c.args.side c.args.format c.args.key.now in
    let old = c.args.self.now in
    let at = c.in-Some-free.at in
    let start = g.D.Disk.state c.args.disk.now in
    let end = g.D.Disk.state c.add.new.disk in
    let is_open = sym (ap (λ (b : BookNow). b.closed) c.self.view_is) ∙ sym c.closed.ensures ∙ c.in_default.is in
    let lawful = ap is_name (sym c.as_bytes.ensures.value) ∙ sym c.in-Some-new.ensures.variant in
    let place : HasPlaceFor c.args.name.now old at = record {
      is_open = is_open;
      lawful = lawful;
      fresh = subst (λ (b : BookNow). under c.args.name.now b.rows ≡ None) c.self.view_is c.in_default-place.ensures;
      free = subst (λ (b : BookNow). IsFree b.rows at) c.self.view_is c.in-Some-free.ensures.free;
    } in
    let named = c.in-Some-new.ensures.value ∙ c.as_bytes.ensures.value in
    let takes =
    subst (λ (b : BookNow). TakesPlaceOf {T = Unit} (writes_at b.store at (record_text (begun_client k begin)))
    (with_row b.store at c.args.name.now (record_text (begun_client k begin))) c.add.new.self.book.store b.store.held start end
    (Ok tt)) c.self.view_is
    (subst (λ (x : Client). TakesPlaceOf {T = Unit} (writes_at c.self.inside.shelf.book.store at (record_text x))
    (with_row c.self.inside.shelf.book.store at c.args.name.now (record_text x)) c.add.new.self.book.store
    c.self.inside.shelf.book.store.held start end (Ok tt)) (c.fill.ensures ∙ c.in-Ok-begin.ensures.0)
    (subst (λ (n : List ℕ). TakesPlaceOf {T = Unit} (writes_at c.self.inside.shelf.book.store at (record_text c.fill.result))
    (with_row c.self.inside.shelf.book.store at n (record_text c.fill.result)) c.add.new.self.book.store
    c.self.inside.shelf.book.store.held start end (Ok tt)) named c.in-Ok-add.ensures.takes)) in
    let rows = c.in-Ok-add.ensures.rows
    ∙ ap (λ (b : BookNow). set b.rows at (Some (record { name = c.in-Some-new.own; kept = c.fill.result }))) c.self.view_is
    ∙ ap (λ (n : List ℕ). set old.rows at (Some (record { name = n; kept = c.fill.result }))) named
    ∙ ap (λ (x : Client). set old.rows at (Some (record { name = c.args.name.now; kept = x }))) (c.fill.ensures ∙ c.in-Ok-begin.ensures.0) in
    let stays = c.in-Ok-add.ensures.stays ∙ sym c.closed.ensures ∙ c.in_default.is in (
      at,
      place,
      c.in-Ok-begin.ensures.1,
      put_first c.args.name.now (begun_client k begin) old c.add.new.self.book at start end place
          (c.requires is_open) takes stays rows,
    )

pub returns-in-Ok-add-clause-steps : goal.returns-in-Ok-add-clause-steps
returns-in-Ok-add-clause-steps g c =
    let k = g.K.Kem.mechanism in
    let begin = begin_of c.args.side c.args.format c.args.key.now in
    let old = c.args.self.now in
    let at = c.in-Some-free.at in
    let is_open = sym (ap (λ (b : BookNow). b.closed) c.self.view_is) ∙ sym c.closed.ensures ∙ c.in_default.is in
    let lawful = ap is_name (sym c.as_bytes.ensures.value) ∙ sym c.in-Some-new.ensures.variant in
    let place : HasPlaceFor c.args.name.now old at = record {
      is_open = is_open;
      lawful = lawful;
      fresh = subst (λ (b : BookNow). under c.args.name.now b.rows ≡ None) c.self.view_is c.in_default-place.ensures;
      free = subst (λ (b : BookNow). IsFree b.rows at) c.self.view_is c.in-Some-free.ensures.free;
    } in
    let named = c.in-Some-new.ensures.value ∙ c.as_bytes.ensures.value in
    let rows = c.in-Ok-add.ensures.rows
    ∙ ap (λ (b : BookNow). set b.rows at (Some (record { name = c.in-Some-new.own; kept = c.fill.result }))) c.self.view_is
    ∙ ap (λ (n : List ℕ). set old.rows at (Some (record { name = n; kept = c.fill.result }))) named
    ∙ ap (λ (x : Client). set old.rows at (Some (record { name = c.args.name.now; kept = x }))) (c.fill.ensures ∙ c.in-Ok-begin.ensures.0) in
    begun_step k c.args.name.now begin old c.add.new.self.book at place c.in-Ok-begin.ensures.1
    (c.in-Ok-add.ensures.stays ∙ sym c.closed.ensures ∙ c.in_default.is) rows

pub returns-in-Err-clause-begins : goal.returns-in-Err-clause-begins
returns-in-Err-clause-begins g c =
    let k = g.K.Kem.mechanism in
    let begin = begin_of c.args.side c.args.format c.args.key.now in
    let old = c.args.self.now in
    let at = c.in-Some-free.at in
    let start = g.D.Disk.state c.args.disk.now in
    let end = g.D.Disk.state c.add.new.disk in
    let is_open = sym (ap (λ (b : BookNow). b.closed) c.self.view_is) ∙ sym c.closed.ensures ∙ c.in_default.is in
    let lawful = ap is_name (sym c.as_bytes.ensures.value) ∙ sym c.in-Some-new.ensures.variant in
    let place : HasPlaceFor c.args.name.now old at = record {
      is_open = is_open;
      lawful = lawful;
      fresh = subst (λ (b : BookNow). under c.args.name.now b.rows ≡ None) c.self.view_is c.in_default-place.ensures;
      free = subst (λ (b : BookNow). IsFree b.rows at) c.self.view_is c.in-Some-free.ensures.free;
    } in
    let named = c.in-Some-new.ensures.value ∙ c.as_bytes.ensures.value in
    let failed : Result Unit StoreFault = Err c.in-Err.fault in
    let takes =
    subst (λ (b : BookNow). TakesPlaceOf {T = Unit} (writes_at b.store at (record_text (begun_client k begin)))
    (with_row b.store at c.args.name.now (record_text (begun_client k begin))) c.add.new.self.book.store b.store.held start end
    failed) c.self.view_is
    (subst (λ (x : Client). TakesPlaceOf {T = Unit} (writes_at c.self.inside.shelf.book.store at (record_text x))
    (with_row c.self.inside.shelf.book.store at c.args.name.now (record_text x)) c.add.new.self.book.store
    c.self.inside.shelf.book.store.held start end failed) (c.fill.ensures ∙ c.in-Ok-begin.ensures.0)
    (subst (λ (n : List ℕ). TakesPlaceOf {T = Unit} (writes_at c.self.inside.shelf.book.store at (record_text c.fill.result))
    (with_row c.self.inside.shelf.book.store at n (record_text c.fill.result)) c.add.new.self.book.store
    c.self.inside.shelf.book.store.held start end failed) named c.in-Err.ensures.takes)) in (
      at,
      place,
      c.in-Ok-begin.ensures.1,
      record {
        takes = takes;
        rows = tt;
        stays_open = tt;
        ready = tt;
        keeps = c.in-Err.ensures.keeps ∙ ap (λ (b : BookNow). b.rows) c.self.view_is;
        closes = c.in-Err.ensures.closes;
      },
    )
