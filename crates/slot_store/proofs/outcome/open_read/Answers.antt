use Rattle.std.proofs.Common.{subst}
use Rattle.slot_store.specs.Locating.{HoldsWhatCounts, IsLocated, IsLocatedBy}
use Rattle.slot_store.proofs.Openings.OpenedStore.{opens_failed, opens_stored}
use Rattle.slot_store.proofs.Openings.TablesRead.{settling_later, tables_of}
use Rattle.slot_store.proofs.outcome.open_read.Goals as goal

pub settle-requires-clause-settling : goal.settle-requires-clause-settling
settle-requires-clause-settling g c =
    let start = g.D.Disk.state c.args.disk.now in
    let held : HoldsWhatCounts g.G.Grammar.fault_at c.args.area start c.in-Ok-Held.pager =
    subst (IsLocated g.G.Grammar.fault_at c.args.area start) c.in-Ok-Held.field-0-is c.in-Ok-Held.ensures.located.found in
    settling_later c.args.area c.args.first_gate c.args.second_gate _ start _ c.requires.tables c.in-Ok-Held.pager _
    held.area_is c.in-Ok-Held.ensures.located.looks c.requires.settled held.shown

pub settle-requires-clause-tables : goal.settle-requires-clause-tables
settle-requires-clause-tables g c =
    let start = g.D.Disk.state c.args.disk.now in
    let held : HoldsWhatCounts g.G.Grammar.fault_at c.args.area start c.in-Ok-Held.pager =
    subst (IsLocated g.G.Grammar.fault_at c.args.area start) c.in-Ok-Held.field-0-is c.in-Ok-Held.ensures.located.found in
    let looks = c.in-Ok-Held.ensures.located.looks in
    tables_of _ _ _ _ _ _ c.requires.tables _ held.area_is looks.during.size looks.untouched.unwritten.seen

pub returns-in-Ok-clause-opens : goal.returns-in-Ok-clause-opens
returns-in-Ok-clause-opens g c =
    let start = g.D.Disk.state c.args.disk.now in
    let held : HoldsWhatCounts g.G.Grammar.fault_at c.args.area start c.in-Ok-Held.pager =
    subst (IsLocated g.G.Grammar.fault_at c.args.area start) c.in-Ok-Held.field-0-is c.in-Ok-Held.ensures.located.found in
    opens_stored g.G.Grammar.fault_at c.args.area c.in-Ok-Held.pager held.area_is _ start _ _ c.requires.settled
    c.in-Ok-Held.ensures.located.looks held.shown c.found_in-found.result c.in-Ok.field-0 c.in-Ok.ensures held.read held.text held.first c.found_in-found.ensures

pub returns-in-Err-settle-clause-opens : goal.returns-in-Err-settle-clause-opens
returns-in-Err-settle-clause-opens g c =
    let start = g.D.Disk.state c.args.disk.now in
    let held : HoldsWhatCounts g.G.Grammar.fault_at c.args.area start c.in-Ok-Held.pager =
    subst (IsLocated g.G.Grammar.fault_at c.args.area start) c.in-Ok-Held.field-0-is c.in-Ok-Held.ensures.located.found in
    opens_failed {T = Unit {0}} g.G.Grammar.fault_at c.args.area c.in-Ok-Held.pager held.area_is _ start _ _ c.requires.settled
    c.in-Ok-Held.ensures.located.looks held.shown c.in-Err-settle.call c.in-Err-settle.ensures

pub returns-in-Ok-clause-read : goal.returns-in-Ok-clause-read
returns-in-Ok-clause-read g c =
    subst (IsLocatedBy g.G.Grammar.has_read c.args.reader.now c.locate.new.reader) c.in-Ok-Held.field-0-is c.in-Ok-Held.ensures.read
