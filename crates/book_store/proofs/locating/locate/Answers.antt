use Rattle.pages.proofs.Looking.{looks_none}
use Rattle.pages.specs.Tables.{alike, none_open}
use Rattle.pages.proofs.JudgedRead.{judged_read, first_counts, first_opened, second_counts, second_opened}
use Rattle.book_store.specs.Layout.{book_layout}
use Rattle.book_store.proofs.Openings.BookRead.{alike_reading, none_located}
use Rattle.book_store.proofs.locating.locate.Goals as goal

pub returns-in-Alike : goal.returns-in-Alike
returns-in-Alike g c = record {
  found = λ s told. alike_reading g.G.Grammar.fault_at c.args.count s
      (judged_read (book_layout c.args.count) (g.D.Disk.state c.args.disk.now) c.args.first_gate c.args.second_gate c.args.scratch.now.first.items
      c.args.scratch.now.second.items c.deref.result.now c.deref-2.result.now alike
      c.deref.ensures.value c.deref-2.ensures.value c.in-Alike.ensures c.requires.tables.read s told);
  looks = looks_none _ _;
}

pub returns-in-NoneOpen : goal.returns-in-NoneOpen
returns-in-NoneOpen g c = record {
  found = none_located g.G.Grammar.fault_at g.G.Grammar.has_read c.args.count c.locate_none.new.readers.items (g.D.Disk.state c.args.disk.now)
      c.locate_none.result c.locate_none.ensures
      (judged_read (book_layout c.args.count) (g.D.Disk.state c.args.disk.now) c.args.first_gate c.args.second_gate c.args.scratch.now.first.items
      c.args.scratch.now.second.items c.deref.result.now c.deref-2.result.now none_open
      c.deref.ensures.value c.deref-2.ensures.value c.in-NoneOpen.ensures c.requires.tables.read);
  looks = looks_none _ _;
}

pub locate_newer-requires-clause-opened : goal.locate_newer-requires-clause-opened
locate_newer-requires-clause-opened g c =
    second_opened (book_layout c.args.count) (g.D.Disk.state c.args.disk.now) c.args.first_gate c.args.second_gate c.args.scratch.now.first.items
    c.args.scratch.now.second.items c.deref.result.now c.deref-2.result.now c.deref-in-Newer-true.result.now
    c.deref.ensures.value c.deref-2.ensures.value c.in-Newer-true.second c.in-Newer-true.ensures c.in-Newer-true.second-test c.deref-in-Newer-true.ensures.value

pub locate_newer-requires-clause-counts : goal.locate_newer-requires-clause-counts
locate_newer-requires-clause-counts g c =
    second_counts (book_layout c.args.count) (g.D.Disk.state c.args.disk.now) c.args.first_gate c.args.second_gate c.args.scratch.now.first.items
    c.args.scratch.now.second.items c.deref.result.now c.deref-2.result.now c.deref-in-Newer-true.result.now
    c.deref.ensures.value c.deref-2.ensures.value c.in-Newer-true.second c.in-Newer-true.ensures c.in-Newer-true.second-test c.deref-in-Newer-true.ensures.value c.requires.tables.read

pub locate_newer-requires-in-Newer-false-clause-opened : goal.locate_newer-requires-in-Newer-false-clause-opened
locate_newer-requires-in-Newer-false-clause-opened g c =
    first_opened (book_layout c.args.count) (g.D.Disk.state c.args.disk.now) c.args.first_gate c.args.second_gate c.args.scratch.now.first.items
    c.args.scratch.now.second.items c.deref.result.now c.deref-2.result.now c.deref-in-Newer-false.result.now
    c.deref.ensures.value c.deref-2.ensures.value c.in-Newer-false.second c.in-Newer-false.ensures c.in-Newer-false.second-test c.deref-in-Newer-false.ensures.value

pub locate_newer-requires-in-Newer-false-clause-counts : goal.locate_newer-requires-in-Newer-false-clause-counts
locate_newer-requires-in-Newer-false-clause-counts g c =
    first_counts (book_layout c.args.count) (g.D.Disk.state c.args.disk.now) c.args.first_gate c.args.second_gate c.args.scratch.now.first.items
    c.args.scratch.now.second.items c.deref.result.now c.deref-2.result.now c.deref-in-Newer-false.result.now
    c.deref.ensures.value c.deref-2.ensures.value c.in-Newer-false.second c.in-Newer-false.ensures c.in-Newer-false.second-test c.deref-in-Newer-false.ensures.value c.requires.tables.read
