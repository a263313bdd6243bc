use Rattle.std.proofs.Common.{None, Option, Some, [], ap, arith, get_or, length, subst, sym, ◌+◌, ◌∙◌, ◌∷◌, ◌++◌, ◌≡◌}
use Rattle.std.specs.Prelude.{if◌then◌else◌, is_ok}
use Rattle.std.proofs.lemmas.List.{get_or-set_other, length-set, length_push}
use Rattle.book_model.specs.Rows.{Row, Rows}
use Rattle.book_store.specs.Shown.{BookRow}
use Rattle.client.specs.Reading.{HasReadClient}
use Rattle.session_model.specs.Clients.{Client}
use Rattle.book.specs.Opening.{IsRowRead}
use Rattle.book.proofs.Filled.{absent_here, filled_next, read_here}
use Rattle.book.proofs.reading.fill_rows.Goals.{in-Some, in-None}
use Rattle.book.proofs.reading.fill_rows.Goals as goal

pub row_read-row-requires-clause-read : goal.row_read-row-requires-clause-read
row_read-row-requires-clause-read g c = λ row is.
    let reader = c.in-Some.reader.reader.value in
    let from = read_here _ c.args.readers.items c.rows.readers.items c.args.store.now.held c.rows.at c.index_mut.result.now
    c.requires.read c.rows.invariant.readers (omega (arith, c.rows-test.true, c.requires.most))
    (c.rows.invariant.left c.rows.at (omega arith)) c.index_mut.ensures.value c.in-Some.reader
    (sym c.replace.ensures.value ∙ c.in-Some.is) in
    let same : from.0 ≡ row = let e : Some from.0 ≡ Some row = sym from.1 ∙ is in cc in
    subst (λ (r : BookRow). HasReadClient g.K.Kem.mechanism reader.session reader.room.inbox reader.room.outbox reader.keys
    r.text) same from.2

pub row_read-row-requires-clause-some : goal.row_read-row-requires-clause-some
row_read-row-requires-clause-some g c =
    let from = read_here _ c.args.readers.items c.rows.readers.items c.args.store.now.held c.rows.at c.index_mut.result.now
    c.requires.read c.rows.invariant.readers (omega (arith, c.rows-test.true, c.requires.most))
    (c.rows.invariant.left c.rows.at (omega arith)) c.index_mut.ensures.value c.in-Some.reader
    (sym c.replace.ensures.value ∙ c.in-Some.is) in
    (from.0, from.1, c.requires.names c.rows.at from.0 from.1)

pub rows-preserved : goal.rows-preserved
rows-preserved g c =
    let k = g.K.Kem.mechanism in
    let held = c.args.store.now.held in
    let at = c.rows.at in
    let old : Rows Client = c.rows.rows.items in
    let row : Option (Row Client) = c.match-replace.row in
    let ok = ap is_ok c.unwrap.ensures in
    let items : c.push.new.self.items ≡ old ++ row ∷ [] =
    c.push.ensures.items ∙ ap (λ t. if t then old ++ row ∷ [] else old) ok in
    let here : IsRowRead k (get_or held at None) row = elim c.match-replace.branch [
      | in-Some w ↦
          subst (λ (o : Option (Row Client)). IsRowRead k (get_or held at None) o) (sym w.row-is) w.row_read-row.ensures
      | in-None w ↦
          let none = absent_here _ c.args.readers.items c.rows.readers.items held at c.index_mut.result.now
          c.requires.read c.rows.invariant.readers (omega (arith, c.rows-test.true, c.requires.most))
          (c.rows.invariant.left at (omega arith)) c.index_mut.ensures.value
          (sym c.replace.ensures.value ∙ w.in-None.is) in
          subst (λ (o : Option (Row Client)). IsRowRead k (get_or held at None) o) (sym w.row-is)
          (subst (λ (h : Option BookRow). IsRowRead k h None) (sym none) tt)
    ] in
    record {
      long = ap (λ (l : Rows Client). length l) items ∙ length_push old row ∙ ap (λ n. n + 1) c.rows.invariant.long;
      room = omega (arith, c.rows.invariant.room, c.push.ensures.capacity);
      readers = length-set c.rows.readers.items at c.replace.new.dest ∙ c.rows.invariant.readers;
      left = λ r le. get_or-set_other c.rows.readers.items at r c.replace.new.dest None (λ e. absurd (omega (arith, le, e)))
          ∙ c.rows.invariant.left r (omega (arith, le));
      done = filled_next k held old c.push.new.self.items row at c.rows.invariant.long c.rows.invariant.done items here;
    }
