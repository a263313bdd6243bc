use Rattle.std.proofs.Common.{◌≡◌, ℕ, List, ap, arith, false, get_or, length, subst, sym}
use Rattle.std.specs.Prelude.{◌||◌, ◌↔◌, IsTrue}
use Rattle.std.proofs.lemmas.List.{length-replicate}
use Rattle.dr_disk.specs.State.{OnSeen}
use Rattle.pages.specs.declared.layout.Layout.{Layout}
use Rattle.pages.specs.Clearing.{AreBlank}
use Rattle.pages.specs.Counted.{lookings}
use Rattle.pages.proofs.Looking.{looks_as, looks_failed}
use Rattle.pages.specs.Layouts.{IsSound}
use Rattle.record_pages.specs.Plans.{is_among}
use Rattle.slot_store.proofs.Entries.{entries_inside}
use Rattle.slot_store.proofs.Wipings.Marks.{marks_of}
use Rattle.slot_store.proofs.Wipings.Wiping.{sound_area}
use Rattle.slot_store.proofs.looking.others_blank.Goals as goal

pub mark_pages-requires : goal.mark_pages-requires
mark_pages-requires g c = record {
  inside = entries_inside c.args.pager.now.area c.deref.result.now c.args.pager.now.kept.numbers.items c.args.named.now
      c.deref.ensures.value c.requires.marks c.args.pager.now.entries;
}

pub are_blank-requires-clause-sound : goal.are_blank-requires-clause-sound
are_blank-requires-clause-sound g c = subst (λ l. IsSound l (g.D.Disk.state c.args.disk.now).size) (sym c.layout.ensures.layout)
    (sound_area c.args.pager.now.area _ c.args.pager.now.lawful (omega arith) c.requires.within)

pub returns-in-Ok-clause-blank : goal.returns-in-Ok-clause-blank
returns-in-Ok-clause-blank g c = record {
  found = subst (λ (l : Layout). OnSeen (λ s. IsTrue c.in-Ok.blank ↔ AreBlank l c.mark_pages.new.named s)
      (g.D.Disk.state c.args.disk.now)) c.layout.ensures.layout c.in-Ok.ensures.blank;
  looks = looks_as _ _ _ _ (omega (arith, ap lookings c.layout.ensures.layout)) c.in-Ok.ensures.looks;
}

pub returns-in-Ok-clause-marks : goal.returns-in-Ok-clause-marks
returns-in-Ok-clause-marks g c =
    marks_of c.args.named.now _ c.args.pager.now.area.pages c.args.pager.now.kept.numbers.items c.requires.marks
    (subst (λ (ns : List ℕ). (n : ℕ) → get_or c.mark_pages.new.named n false ≡ (get_or c.args.named.now n false || is_among ns n))
    c.deref.ensures.value c.mark_pages.ensures.marks)

pub returns-in-Err-clause-marks : goal.returns-in-Err-clause-marks
returns-in-Err-clause-marks g c =
    marks_of c.args.named.now _ c.args.pager.now.area.pages c.args.pager.now.kept.numbers.items c.requires.marks
    (subst (λ (ns : List ℕ). (n : ℕ) → get_or c.mark_pages.new.named n false ≡ (get_or c.args.named.now n false || is_among ns n))
    c.deref.ensures.value c.mark_pages.ensures.marks)

pub are_blank-requires-clause-marks : goal.are_blank-requires-clause-marks
are_blank-requires-clause-marks g c =
    omega (
      arith,
      ap (λ (l : Layout). l.count) c.layout.ensures.layout,
      c.mark_pages.ensures.long,
      ap length c.requires.marks,
      length-replicate c.args.pager.now.area.pages false,
    )

pub returns-in-Err-clause-blank : goal.returns-in-Err-clause-blank
returns-in-Err-clause-blank g c = record { found = tt; looks = looks_failed _ _ _ (omega (arith, ap lookings c.layout.ensures.layout)) c.in-Err.ensures.looks }
