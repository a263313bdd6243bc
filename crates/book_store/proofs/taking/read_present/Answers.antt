use Rattle.std.proofs.Common.{◌≡◌, None, Some, refl, sym, ◌∙◌, subst, arith}
use Rattle.pages.proofs.Looking.{looks_as}
use Rattle.paged_records.specs.Loading.{IsReadRecord}
use Rattle.book_store.proofs.Sayings.Said.{said}
use Rattle.book_store.proofs.Openings.RowLoaded.{present_as}
use Rattle.book_store.proofs.Openings.RowTaken.{added, none_dropped, present_named, row_record}
use Rattle.book_store.specs.RowReading.{IsKeptRecord, IsRowKept, IsRowLoaded}
use Rattle.book_store.specs.Rows.{name_in}
use Rattle.book_store.proofs.taking.read_present.Goals as goal

pub name_of-name-requires-clause-named : goal.name_of-name-requires-clause-named
name_of-name-requires-clause-named g c = present_named c.args.bytes.now (present_as c.args.bytes.now c.requires.laid c.requires.present)

pub invariant_of-held : goal.invariant_of-held
invariant_of-held g c =
    let kept : IsRowKept g.G.Grammar.fault_at c.args.bytes.now c.in-Ok-Whole.kept =
    subst (IsKeptRecord g.G.Grammar.fault_at c.args.bytes.now) c.in-Ok-Whole.field-0-is c.in-Ok-Whole.ensures.kept in
    record {
      «record» = row_record c.args.bytes.now (present_as c.args.bytes.now c.requires.laid c.requires.present) g.G.Grammar.fault_at
          c.in-Ok-Whole.kept kept;
      none = λ none. absurd (let e : Some (name_in c.args.bytes.now) ≡ None = sym c.name_of-name.ensures ∙ none in cc);
      gone = none_dropped c.in-Ok.room.dropped.items c.in-Ok.ensures.dropped;
      room = c.in-Ok.ensures.drops;
    }

pub returns-in-Ok-Whole-clause-read : goal.returns-in-Ok-Whole-clause-read
returns-in-Ok-Whole-clause-read g c =
    let start = g.D.Disk.state c.args.disk.now in
    let is = present_as c.args.bytes.now c.requires.laid c.requires.present in
    let kept : IsRowKept g.G.Grammar.fault_at c.args.bytes.now c.in-Ok-Whole.kept =
    subst (IsKeptRecord g.G.Grammar.fault_at c.args.bytes.now) c.in-Ok-Whole.field-0-is c.in-Ok-Whole.ensures.kept in
    record {
      found = added g.G.Grammar.fault_at g.G.Grammar.has_read c.args.row c.args.bytes.now c.args.rows.now.items
          c.push.new.self.items c.args.readers.now.items c.push-in-Ok-Whole.new.self.items _ start _ _
          c.push.ensures.items (c.push.ensures.succeeds c.requires.room) c.load_row.new.reader
          c.push-in-Ok-Whole.ensures.items (c.push-in-Ok-Whole.ensures.succeeds c.requires.readers) c.in-Ok-Whole.kept
          c.name_of-name.ensures refl (said c.args.bytes.now is.mark is.said_is).one kept
          (λ s told. subst (λ x. IsRowLoaded g.G.Grammar.fault_at c.args.row c.args.bytes.now x s) c.in-Ok-Whole.field-0-is
          (c.in-Ok-Whole.ensures.loaded.found s told))
          (subst (IsReadRecord (g.G.Grammar.has_read c.load_row.new.reader)) c.in-Ok-Whole.field-0-is c.in-Ok-Whole.ensures.read);
      looks = looks_as _ _ _ _ (omega arith) c.in-Ok-Whole.ensures.loaded.looks;
    }

pub returns-in-Ok-Faulty-clause-read : goal.returns-in-Ok-Faulty-clause-read
returns-in-Ok-Faulty-clause-read g c = record {
  found = λ s told. subst (λ x. IsRowLoaded g.G.Grammar.fault_at c.args.row c.args.bytes.now x s) c.in-Ok-Faulty.field-0-is
      (c.in-Ok-Faulty.ensures.loaded.found s told);
  looks = looks_as _ _ _ _ (omega arith) c.in-Ok-Faulty.ensures.loaded.looks;
}
