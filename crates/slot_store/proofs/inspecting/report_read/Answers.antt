use Rattle.std.proofs.Common.{sym, subst, ap, ◌∙◌, arith}
use Rattle.pages.proofs.Looking.{looks_as, looks_failed, looks_twice}
use Rattle.pages.specs.Counted.{lookings}
use Rattle.slot_store.specs.Areas.{layout_of}
use Rattle.slot_store.specs.Locating.{HoldsWhatCounts, IsLocated}
use Rattle.slot_store.specs.Reports.{finding_of}
use Rattle.slot_store.proofs.Openings.Reported.{gate_told, rests_found}
use Rattle.slot_store.proofs.Openings.TablesRead.{tables_of}
use Rattle.slot_store.proofs.inspecting.report_read.Goals as goal

pub rests-requires-clause-tables : goal.rests-requires-clause-tables
rests-requires-clause-tables g c =
    let held : HoldsWhatCounts g.G.Grammar.fault_at c.args.area (g.D.Disk.state c.args.disk.now) c.in-Ok-Held.pager =
    subst (IsLocated g.G.Grammar.fault_at c.args.area (g.D.Disk.state c.args.disk.now)) c.in-Ok-Held.field-0-is c.in-Ok-Held.ensures.located.found in
    let looks = c.in-Ok-Held.ensures.located.looks in
    tables_of _ _ _ _ _ _ c.requires.tables _ held.area_is looks.during.size looks.untouched.unwritten.seen

pub returns-in-Ok : goal.returns-in-Ok
returns-in-Ok g c =
    let start = g.D.Disk.state c.args.disk.now in
    let held : HoldsWhatCounts g.G.Grammar.fault_at c.args.area start c.in-Ok-Held.pager =
    subst (IsLocated g.G.Grammar.fault_at c.args.area start) c.in-Ok-Held.field-0-is c.in-Ok-Held.ensures.located.found in
    record {
      found = λ s told. record {
        first = gate_told _ _ _ _ _ c.deref.ensures.value (c.requires.tables.read.first_is s told) c.gate_seen-first.ensures;
        second = gate_told _ _ _ _ _ c.deref-2.ensures.value (c.requires.tables.read.second_is s told) c.gate_seen-second.ensures;
        found = c.finding-found.ensures ∙ sym (ap finding_of (held.read s told));
        rest = rests_found g.G.Grammar.fault_at c.args.area start c.in-Ok-Held.pager held s told c.in-Ok.rest
            (c.in-Ok.ensures.found s (c.in-Ok-Held.ensures.located.looks.untouched.unwritten.seen ∙ told));
      };
      looks = looks_twice {more = lookings (layout_of c.args.area)} _ _ _ _ _ (omega arith) c.in-Ok-Held.ensures.located.looks
          (looks_as _ _ _ _ (omega (arith, ap (λ a. lookings (layout_of a)) held.area_is)) c.in-Ok.ensures.looks);
    }

pub returns : goal.returns
returns g c =
    let start = g.D.Disk.state c.args.disk.now in
    let held : HoldsWhatCounts g.G.Grammar.fault_at c.args.area start c.in-Ok-Held.pager =
    subst (IsLocated g.G.Grammar.fault_at c.args.area start) c.in-Ok-Held.field-0-is c.in-Ok-Held.ensures.located.found in
    record {
      found = tt;
      looks = looks_twice {more = lookings (layout_of c.args.area)} _ _ _ _ _ (omega arith) c.in-Ok-Held.ensures.located.looks
          (looks_failed _ _ _ (omega (arith, ap (λ a. lookings (layout_of a)) held.area_is)) c.in-Err-rests.ensures.looks);
    }
