use Rattle.std.proofs.Common.{Ok, Option, Some, ap, subst, sym, true, ◌∙◌, ◌≡◌}
use Rattle.std.specs.Prelude.{is_some}
use Rattle.book_store.specs.Shown.{BookRow}
use Rattle.book_store.specs.Store.{name_of_row}
use Rattle.session_model.specs.States.{State}
use Rattle.session_record.specs.Lawful.{IsLawfulClient}
use Rattle.session_record.specs.Record.{client_of}
use Rattle.book.specs.Opening.{IsRowRead}
use Rattle.book.proofs.Filled.{carried}
use Rattle.book.proofs.reading.row_read.Goals as goal

pub into_core-requires-clause-some : goal.into_core-requires-clause-some
into_core-requires-clause-some g c =
    let row = c.requires.some in
    carried (sym c.into_inner.ensures) (λ r. is_some r.session ≡ true)
    (ap is_some (c.requires.read row.0 row.1).session_is)

pub into_core-requires-clause-lawful : goal.into_core-requires-clause-lawful
into_core-requires-clause-lawful g c =
    let row = c.requires.some in
    let read = c.requires.read row.0 row.1 in
    carried (sym c.into_inner.ensures) (λ r. (s : State) → r.session ≡ Some s
    → IsLawfulClient g.K.Kem.mechanism (client_of s r.room.inbox r.room.outbox r.keys))
    (λ s is.
    let room = c.args.reader.reader.value.room in
    let same : read.state ≡ s = let e : Some read.state ≡ Some s = sym read.session_is ∙ is in cc in
    subst (λ (s : State). IsLawfulClient g.K.Kem.mechanism (client_of s room.inbox room.outbox c.args.reader.reader.value.keys))
    same read.lawful)

pub returns : goal.returns
returns g c =
    let row = c.requires.some in
    let read = c.requires.read row.0 row.1 in
    let named : c.in-Some.name.now ≡ row.0.name =
    let e : Some c.in-Some.name.now ≡ Some row.0.name = sym c.in-Some.ensures.value ∙ ap name_of_row row.1 in cc in
    let k = g.K.Kem.mechanism in
    let here = carried c.into_inner.ensures (λ r. c.into_core.result ≡ client_of read.state r.room.inbox r.room.outbox r.keys)
    (c.into_core.ensures read.state
    (carried (sym c.into_inner.ensures) (λ r. r.session ≡ Some read.state) read.session_is)) in
    subst (λ (o : Option BookRow). IsRowRead k o
    (Some (record { name = c.in-Some-new.name; kept = c.fill.result }))) (sym row.1) (
      c.in-Some-new.ensures.value ∙ c.as_bytes.ensures.value ∙ named,
      read.read ∙ ap Ok (sym (c.fill.ensures ∙ here)),
      subst (IsLawfulClient k) (sym (c.fill.ensures ∙ here)) read.lawful,
    )
