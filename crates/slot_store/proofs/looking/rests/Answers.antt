use Rattle.std.proofs.Common.{◌≡◌, false, true, sym, ◌∙◌, arith}
use Rattle.pages.proofs.Looking.{looks_as, looks_none}
use Rattle.slot_store.proofs.Wipings.Wiped.{laid_blank, laid_by, laid_others, asked_of}
use Rattle.slot_store.proofs.looking.rests.Goals as goal

pub returns-then-not-others_wiped : goal.returns-then-not-others_wiped
returns-then-not-others_wiped g c = record {
  looks = looks_none _ _;
  found = λ s told.
      let asks = asked_of c.args.pager.now c.args.first_gate c.args.second_gate c.deref.result.now c.deref-2.result.now
      c.args.scratch.now.first.items c.args.scratch.now.second.items c.is_wiped-first.result c.is_wiped-second.result c.others_wiped.result s
      c.deref.ensures.value c.deref-2.ensures.value (c.requires.tables.read.first_is s told) (c.requires.tables.read.second_is s told)
      c.is_wiped-first.ensures c.is_wiped-second.ensures c.others_wiped.ensures in (
        λ is. absurd (let e : false ≡ true = is in cc),
        λ laid. sym c.if-not-others_wiped.true ∙ asks.1 (laid_others c.args.pager.now s laid),
      );
}

pub returns-in-Ok : goal.returns-in-Ok
returns-in-Ok g c = record {
  looks = looks_as _ _ _ _ (omega arith) c.in-Ok.ensures.blank.looks;
  found = λ s told.
      let asks = asked_of c.args.pager.now c.args.first_gate c.args.second_gate c.deref.result.now c.deref-2.result.now
      c.args.scratch.now.first.items c.args.scratch.now.second.items c.is_wiped-first.result c.is_wiped-second.result c.others_wiped.result s
      c.deref.ensures.value c.deref-2.ensures.value (c.requires.tables.read.first_is s told) (c.requires.tables.read.second_is s told)
      c.is_wiped-first.ensures c.is_wiped-second.ensures c.others_wiped.ensures in
      let marks = c.others_blank.ensures.marks in
      let blank = c.in-Ok.ensures.blank.found s told in (
        λ yes. laid_by c.args.pager.now _ marks s (g.D.Disk.state c.args.disk.now) c.requires.shown told
            (asks.0 c.if-not-others_wiped.false) (blank.0 yes),
        λ laid. blank.1 (laid_blank c.args.pager.now _ marks s laid),
      );
}
