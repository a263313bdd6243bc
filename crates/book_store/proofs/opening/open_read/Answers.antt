use Rattle.std.proofs.Common.{◌≡◌, Ok, Err, List, length, refl, sym, ◌∙◌, subst}
use Rattle.std.proofs.lemmas.List.{length-map}
use Rattle.book_store.proofs.Openings.OpenedStore.{opens_failed, opens_refused, opens_stored, opens_unread}
use Rattle.book_store.proofs.Openings.TablesRead.{settled_later, tables_later}
use Rattle.book_store.specs.Held.{row_seen}
use Rattle.book_store.specs.Locating.{HoldsBook, IsCause, IsLocated, store_with}
use Rattle.book_store.specs.Scratch.{HasTables}
use Rattle.book_store.specs.Settling.{IsSettledBook, MaySettle, Settles}
use Rattle.book_store.specs.declared.held.HeldRow.{HeldRow}
use Rattle.book_store.specs.declared.layout.TheConstants.{BOOK_ROWS}
use Rattle.book_store.proofs.opening.open_read.Goals as goal

pub settle-requires-clause-settling : goal.settle-requires-clause-settling
settle-requires-clause-settling g c =
    let start = g.D.Disk.state c.args.disk.now in
    let mid = g.D.Disk.state c.locate-located.new.disk in
    let holds : HoldsBook g.G.Grammar.fault_at g.G.Grammar.has_read c.args.count c.locate-located.new.readers.items
    c.in-Ok-Held.desk c.in-Ok-Held.rows.items start =
    subst (IsLocated g.G.Grammar.fault_at g.G.Grammar.has_read c.args.count c.locate-located.new.readers.items start)
    c.in-Ok-Held.field-0-is c.in-Ok-Held.ensures.found in
    let looks = c.in-Ok-Held.ensures.looks in
    subst (λ (rows : List HeldRow). MaySettle (store_with c.in-Ok-Held.desk rows) mid) (sym c.deref.ensures.value) (record {
      ready = subst (λ n. IsSettledBook n mid) (sym holds.count_is)
          (settled_later c.args.count c.args.first_gate c.args.second_gate _ start mid c.requires.tables _ looks c.requires.settled);
      shown = λ s told. holds.shown s (sym looks.untouched.unwritten.seen ∙ told);
      marked = holds.store.marked;
    })

pub settle-requires-clause-tables : goal.settle-requires-clause-tables
settle-requires-clause-tables g c =
    let start = g.D.Disk.state c.args.disk.now in
    let mid = g.D.Disk.state c.locate-located.new.disk in
    let holds : HoldsBook g.G.Grammar.fault_at g.G.Grammar.has_read c.args.count c.locate-located.new.readers.items
    c.in-Ok-Held.desk c.in-Ok-Held.rows.items start =
    subst (IsLocated g.G.Grammar.fault_at g.G.Grammar.has_read c.args.count c.locate-located.new.readers.items start)
    c.in-Ok-Held.field-0-is c.in-Ok-Held.ensures.found in
    let looks = c.in-Ok-Held.ensures.looks in
    subst (λ n. HasTables n c.args.first_gate c.args.second_gate c.args.scratch.now mid) (sym holds.count_is)
    (tables_later c.args.count c.args.first_gate c.args.second_gate _ start mid c.requires.tables looks.during.size looks.untouched.unwritten.seen)

pub settle-requires-clause-all : goal.settle-requires-clause-all
settle-requires-clause-all g c =
    let start = g.D.Disk.state c.args.disk.now in
    let holds : HoldsBook g.G.Grammar.fault_at g.G.Grammar.has_read c.args.count c.locate-located.new.readers.items
    c.in-Ok-Held.desk c.in-Ok-Held.rows.items start =
    subst (IsLocated g.G.Grammar.fault_at g.G.Grammar.has_read c.args.count c.locate-located.new.readers.items start)
    c.in-Ok-Held.field-0-is c.in-Ok-Held.ensures.found in
    subst (λ (rows : List HeldRow). length rows ≡ BOOK_ROWS) (sym c.deref.ensures.value)
    (sym (length-map c.in-Ok-Held.rows.items row_seen) ∙ holds.store.lawful.held_all)

pub returns-in-Ok : goal.returns-in-Ok
returns-in-Ok g c =
    let start = g.D.Disk.state c.args.disk.now in
    let mid = g.D.Disk.state c.locate-located.new.disk in
    let now = g.D.Disk.state c.settle.new.disk in
    let holds : HoldsBook g.G.Grammar.fault_at g.G.Grammar.has_read c.args.count c.locate-located.new.readers.items
    c.in-Ok-Held.desk c.in-Ok-Held.rows.items start =
    subst (IsLocated g.G.Grammar.fault_at g.G.Grammar.has_read c.args.count c.locate-located.new.readers.items start)
    c.in-Ok-Held.field-0-is c.in-Ok-Held.ensures.found in
    opens_stored g.G.Grammar.fault_at g.G.Grammar.has_read c.args.count c.locate-located.new.readers.items c.in-Ok-Held.desk
    c.in-Ok-Held.rows _ start mid now c.requires.settled c.in-Ok-Held.ensures.looks holds
    (sym (length-map c.in-Ok-Held.rows.items row_seen) ∙ holds.store.lawful.held_all) c.in-Ok.field-0
    (subst (λ (rows : List HeldRow). Settles {T = Unit {0}} (store_with c.in-Ok-Held.desk rows) mid now (Ok c.in-Ok.field-0)) c.deref.ensures.value c.in-Ok.ensures)
    _ refl

pub returns-in-Err-settle : goal.returns-in-Err-settle
returns-in-Err-settle g c =
    let start = g.D.Disk.state c.args.disk.now in
    let mid = g.D.Disk.state c.locate-located.new.disk in
    let now = g.D.Disk.state c.settle.new.disk in
    let holds : HoldsBook g.G.Grammar.fault_at g.G.Grammar.has_read c.args.count c.locate-located.new.readers.items
    c.in-Ok-Held.desk c.in-Ok-Held.rows.items start =
    subst (IsLocated g.G.Grammar.fault_at g.G.Grammar.has_read c.args.count c.locate-located.new.readers.items start)
    c.in-Ok-Held.field-0-is c.in-Ok-Held.ensures.found in
    opens_failed {T = Unit {0}} g.G.Grammar.fault_at g.G.Grammar.has_read c.args.count c.locate-located.new.readers.items c.in-Ok-Held.desk
    c.in-Ok-Held.rows _ start mid now c.requires.settled c.in-Ok-Held.ensures.looks holds
    (sym (length-map c.in-Ok-Held.rows.items row_seen) ∙ holds.store.lawful.held_all) c.in-Err-settle.call
    (subst (λ (rows : List HeldRow). Settles {T = Unit {0}} (store_with c.in-Ok-Held.desk rows) mid now (Err c.in-Err-settle.call)) c.deref.ensures.value c.in-Err-settle.ensures)

pub returns-in-Ok-Refused : goal.returns-in-Ok-Refused
returns-in-Ok-Refused g c =
    let start = g.D.Disk.state c.args.disk.now in
    let cause : IsCause g.G.Grammar.fault_at c.args.count c.in-Ok-Refused.error start =
    subst (IsLocated g.G.Grammar.fault_at g.G.Grammar.has_read c.args.count c.locate-located.new.readers.items start)
    c.in-Ok-Refused.field-0-is c.in-Ok-Refused.ensures.found in
    opens_refused g.G.Grammar.fault_at g.G.Grammar.has_read c.args.count c.locate-located.new.readers.items start _ c.requires.settled
    c.in-Ok-Refused.error _ c.in-Ok-Refused.ensures.looks cause _ refl

pub returns-in-Err : goal.returns-in-Err
returns-in-Err g c =
    opens_unread g.G.Grammar.fault_at g.G.Grammar.has_read c.args.count c.locate-located.new.readers.items
    (g.D.Disk.state c.args.disk.now) _ c.requires.settled c.in-Err.call c.in-Err.ensures.looks
