use Rattle.std.proofs.Common.{◌≡◌, arith, refl, subst, sym}
use Rattle.dr_disk.specs.State.{OnSeen}
use Rattle.pages.proofs.Looking.{looks_none}
use Rattle.pages.specs.Tables.{alike, none_open, tables_standing}
use Rattle.slot_store.specs.Areas.{layout_of}
use Rattle.slot_store.proofs.Entries.{none_entries}
use Rattle.slot_store.proofs.Openings.EmptyRead.{alike_reading, empty_first, empty_reading, empty_shown, empty_text}
use Rattle.slot_store.specs.Found.{HasReadContent}
use Rattle.slot_store.proofs.Wipings.Settled.{has_none}
use Rattle.pages.proofs.JudgedRead.{judged_read, first_counts, first_opened, second_counts, second_opened}
use Rattle.slot_store.proofs.locating.locate.Goals as goal

pub returns-in-Alike-clause-located : goal.returns-in-Alike-clause-located
returns-in-Alike-clause-located g c = record {
  found = λ s told. alike_reading g.G.Grammar.fault_at c.args.area s
      (judged_read (layout_of c.args.area) (g.D.Disk.state c.args.disk.now) c.args.first_gate c.args.second_gate c.args.scratch.now.first.items
      c.args.scratch.now.second.items c.deref.result.now c.deref-2.result.now alike
      c.deref.ensures.value c.deref-2.ensures.value c.in-Alike.ensures c.requires.tables.read s told);
  looks = looks_none _ _;
}

pub returns-in-NoneOpen-clause-located : goal.returns-in-NoneOpen-clause-located
returns-in-NoneOpen-clause-located g c =
    let pager = c.pager_of-pager.result in
    let is = c.pager_of-pager.ensures in
    let closed : OnSeen (λ s. tables_standing (layout_of c.args.area) s ≡ none_open) (g.D.Disk.state c.args.disk.now) =
    judged_read (layout_of c.args.area) (g.D.Disk.state c.args.disk.now) c.args.first_gate c.args.second_gate c.args.scratch.now.first.items
    c.args.scratch.now.second.items c.deref.result.now c.deref-2.result.now none_open
    c.deref.ensures.value c.deref-2.ensures.value c.in-NoneOpen.ensures c.requires.tables.read in
    record {
      found = record {
        area_is = is.area;
        shown = λ s told. empty_shown c.args.area pager is.area is.turn s (closed s told);
        read = λ s told. empty_reading g.G.Grammar.fault_at c.args.area pager is.area is.turn s (closed s told);
        text = empty_text g.G.Grammar.fault_at c.args.area pager is.area is.turn;
        first = empty_first pager is.second;
      };
      looks = looks_none _ _;
    }

pub locate_newer-requires-clause-opened : goal.locate_newer-requires-clause-opened
locate_newer-requires-clause-opened g c =
    second_opened (layout_of c.args.area) (g.D.Disk.state c.args.disk.now) c.args.first_gate c.args.second_gate c.args.scratch.now.first.items
    c.args.scratch.now.second.items c.deref.result.now c.deref-2.result.now c.deref-in-Newer-true.result.now
    c.deref.ensures.value c.deref-2.ensures.value c.in-Newer-true.second c.in-Newer-true.ensures c.in-Newer-true.second-test c.deref-in-Newer-true.ensures.value

pub locate_newer-requires-clause-counts : goal.locate_newer-requires-clause-counts
locate_newer-requires-clause-counts g c =
    second_counts (layout_of c.args.area) (g.D.Disk.state c.args.disk.now) c.args.first_gate c.args.second_gate c.args.scratch.now.first.items
    c.args.scratch.now.second.items c.deref.result.now c.deref-2.result.now c.deref-in-Newer-true.result.now
    c.deref.ensures.value c.deref-2.ensures.value c.in-Newer-true.second c.in-Newer-true.ensures c.in-Newer-true.second-test c.deref-in-Newer-true.ensures.value c.requires.tables.read

pub locate_newer-requires-in-Newer-false-clause-opened : goal.locate_newer-requires-in-Newer-false-clause-opened
locate_newer-requires-in-Newer-false-clause-opened g c =
    first_opened (layout_of c.args.area) (g.D.Disk.state c.args.disk.now) c.args.first_gate c.args.second_gate c.args.scratch.now.first.items
    c.args.scratch.now.second.items c.deref.result.now c.deref-2.result.now c.deref-in-Newer-false.result.now
    c.deref.ensures.value c.deref-2.ensures.value c.in-Newer-false.second c.in-Newer-false.ensures c.in-Newer-false.second-test c.deref-in-Newer-false.ensures.value

pub locate_newer-requires-in-Newer-false-clause-counts : goal.locate_newer-requires-in-Newer-false-clause-counts
locate_newer-requires-in-Newer-false-clause-counts g c =
    first_counts (layout_of c.args.area) (g.D.Disk.state c.args.disk.now) c.args.first_gate c.args.second_gate c.args.scratch.now.first.items
    c.args.scratch.now.second.items c.deref.result.now c.deref-2.result.now c.deref-in-Newer-false.result.now
    c.deref.ensures.value c.deref-2.ensures.value c.in-Newer-false.second c.in-Newer-false.ensures c.in-Newer-false.second-test c.deref-in-Newer-false.ensures.value c.requires.tables.read

pub returns-in-NoneOpen-clause-read : goal.returns-in-NoneOpen-clause-read
returns-in-NoneOpen-clause-read g c =
    subst (HasReadContent g.G.Grammar.has_read c.args.reader.now c.args.reader.now)
    (sym (has_none c.pager_of-pager.result c.pager_of-pager.ensures.turn)) refl

pub pager_of-pager-requires-clause-entries : goal.pager_of-pager-requires-clause-entries
pager_of-pager-requires-clause-entries g c =
    none_entries c.args.area.pages c.args.kept.numbers.items
    (omega (arith, c.args.kept.least, c.requires.memory.none))
