use Rattle.std.proofs.Common.{arith, ap, subst, sym, ◌∙◌}
use Rattle.dr_disk.specs.State.{OnSeen}
use Rattle.pages.proofs.Looking.{looks_as, looks_failed}
use Rattle.paged_records.specs.declared.loading.Loaded.TheVariants.{Whole}
use Rattle.paged_records.specs.Loading.{IsNamed, IsReadRecord}
use Rattle.pages.specs.Layouts.{IsSound}
use Rattle.paged_records.specs.Memory.{HasRoomToLoad}
use Rattle.slot_store.specs.Areas.{bounds_of}
use Rattle.slot_store.specs.Settling.{HasShot}
use Rattle.slot_store.proofs.Wipings.Wiping.{sound_area}
use Rattle.slot_store.proofs.Openings.NewerRead.{damaged_newer, loaded_as, named_as, newer_entries, newer_first, newer_read, newer_reading, newer_text, read_shown}
use Rattle.slot_store.proofs.locating.locate_newer.Goals as goal

pub returns-in-Ok-Faulty-clause-located : goal.returns-in-Ok-Faulty-clause-located
returns-in-Ok-Faulty-clause-located g c = record {
  found = λ s told.
      damaged_newer g.G.Grammar.fault_at c.args.area c.args.second c.args.body.now s _ c.in-Ok-Faulty.at (c.requires.counts s told)
      (loaded_as g.G.Grammar.fault_at c.args.area _ c.args.body.now _ _ c.bounds.ensures.bounds c.in-Ok-Faulty.field-0-is _ s
      c.layout.ensures.layout (c.in-Ok-Faulty.ensures.loaded.found s told))
      c.number.ensures;
  looks = looks_as _ _ _ _ (omega (arith, ap (λ b. b.most) c.bounds.ensures.bounds)) c.in-Ok-Faulty.ensures.loaded.looks;
}

pub pager_of-pager-requires-clause-entries : goal.pager_of-pager-requires-clause-entries
pager_of-pager-requires-clause-entries g c =
    newer_entries g.G.Grammar.fault_at c.args.area c.args.body.now c.in-Ok-Whole.kept
    (named_as g.G.Grammar.fault_at c.args.area _ c.args.body.now _ _ c.bounds.ensures.bounds c.in-Ok-Whole.field-0-is c.in-Ok-Whole.ensures.named)

pub returns-in-Err-clause-located : goal.returns-in-Err-clause-located
returns-in-Err-clause-located g c = record { found = tt; looks = looks_failed _ _ _ (omega (arith, ap (λ b. b.most) c.bounds.ensures.bounds)) c.in-Err.ensures.loaded.looks }

pub returns-clause-located : goal.returns-clause-located
returns-clause-located g c =
    let pager = c.pager_of-pager.result in
    let is = c.pager_of-pager.ensures in
    let fault_at = g.G.Grammar.fault_at in
    let body = c.args.body.now in
    let named : IsNamed g.G.Grammar.fault_at (bounds_of c.args.area) c.args.body.now c.in-Ok-Whole.kept =
    named_as g.G.Grammar.fault_at c.args.area _ c.args.body.now _ _ c.bounds.ensures.bounds c.in-Ok-Whole.field-0-is c.in-Ok-Whole.ensures.named in
    let shown : OnSeen (HasShot c.pager_of-pager.result) (g.D.Disk.state c.args.disk.now) = λ s told.
    read_shown fault_at c.args.area c.args.second body c.in-Ok-Whole.kept pager is.area is.second is.turn is.kept
    c.requires.long (λ i. omega (arith, c.type_inv.body i)) c.requires.opened named s (c.requires.counts s told)
    (loaded_as g.G.Grammar.fault_at c.args.area _ c.args.body.now _ _ c.bounds.ensures.bounds c.in-Ok-Whole.field-0-is _ s
    c.layout.ensures.layout (c.in-Ok-Whole.ensures.loaded.found s told)) in
    record {
      found = record {
        area_is = is.area;
        shown = shown;
        read = λ s told. newer_reading fault_at c.args.area c.args.second body c.in-Ok-Whole.kept pager is.area is.second is.turn is.kept
            c.requires.long (λ i. omega (arith, c.type_inv.body i)) c.requires.opened named s (shown s told);
        text = newer_text fault_at c.args.area c.args.second body c.in-Ok-Whole.kept pager is.area is.second is.turn is.kept
            c.requires.long (λ i. omega (arith, c.type_inv.body i)) c.requires.opened named;
        first = newer_first fault_at c.args.area c.args.second body c.in-Ok-Whole.kept pager is.area is.second is.turn is.kept
            c.requires.long (λ i. omega (arith, c.type_inv.body i)) c.requires.opened named;
      };
      looks = looks_as _ _ _ _ (omega (arith, ap (λ b. b.most) c.bounds.ensures.bounds)) c.in-Ok-Whole.ensures.loaded.looks;
    }

pub returns-clause-read : goal.returns-clause-read
returns-clause-read g c =
    let has_read = g.G.Grammar.has_read in
    let pager = c.pager_of-pager.result in
    let read : IsReadRecord (has_read c.load.new.reader) (Whole c.in-Ok-Whole.kept) =
    subst (IsReadRecord (has_read c.load.new.reader)) c.in-Ok-Whole.field-0-is c.in-Ok-Whole.ensures.read in
    newer_read has_read c.args.reader.now c.load.new.reader c.args.body.now c.in-Ok-Whole.kept pager
    c.pager_of-pager.ensures.turn c.pager_of-pager.ensures.kept c.requires.opened read

-- ---- what loading asks

pub load-requires-clause-sound : goal.load-requires-clause-sound
load-requires-clause-sound g c = subst (λ l. IsSound l (g.D.Disk.state c.args.disk.now).size) (sym c.layout.ensures.layout)
    (sound_area c.args.area (g.D.Disk.state c.args.disk.now).size c.layout.ensures.lawful (omega arith) c.requires.within)

pub load-requires-clause-least : goal.load-requires-clause-least
load-requires-clause-least g c =
    ap (λ l. l.least) c.layout.ensures.layout ∙ sym (ap (λ b. b.least) c.bounds.ensures.bounds)

pub load-requires-clause-count : goal.load-requires-clause-count
load-requires-clause-count g c =
    ap (λ l. l.count) c.layout.ensures.layout ∙ sym (ap (λ b. b.count) c.bounds.ensures.bounds)

pub load-requires-clause-room : goal.load-requires-clause-room
load-requires-clause-room g c =
    subst (λ b. HasRoomToLoad b c.args.kept) (sym c.bounds.ensures.bounds) c.requires.memory.room

pub pager_of-pager-requires-clause-room : goal.pager_of-pager-requires-clause-room
pager_of-pager-requires-clause-room g c =
    let named : IsNamed g.G.Grammar.fault_at (bounds_of c.args.area) c.args.body.now c.in-Ok-Whole.kept =
    named_as g.G.Grammar.fault_at c.args.area _ c.args.body.now _ _ c.bounds.ensures.bounds c.in-Ok-Whole.field-0-is c.in-Ok-Whole.ensures.named in
    named.has_room
