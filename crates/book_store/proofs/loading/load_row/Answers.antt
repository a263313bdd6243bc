use Rattle.std.proofs.Common.{◌∙◌, ap, length, subst, sym, arith}
use Rattle.pages.specs.Layouts.{IsSound}
use Rattle.pages.proofs.Looking.{looks_as, looks_failed}
use Rattle.paged_records.specs.Memory.{HasRoomToLoad}
use Rattle.book_store.proofs.Openings.RowLoaded.{kept_as, loaded_as, present_as, present_long}
use Rattle.book_store.proofs.Openings.RowPages.{row_sound}
use Rattle.book_store.proofs.loading.load_row.Goals as goal

pub load-requires-clause-sound : goal.load-requires-clause-sound
load-requires-clause-sound g c = subst (λ l. IsSound l (g.D.Disk.state c.args.disk.now).size) (sym c.row_layout.ensures)
    (row_sound c.args.row (g.D.Disk.state c.args.disk.now).size (omega arith) c.requires.within)

pub load-requires-clause-least : goal.load-requires-clause-least
load-requires-clause-least g c = ap (λ l. l.least) c.row_layout.ensures ∙ sym (ap (λ b. b.least) c.row_bounds.ensures)

pub load-requires-clause-count : goal.load-requires-clause-count
load-requires-clause-count g c = ap (λ l. l.count) c.row_layout.ensures ∙ sym (ap (λ b. b.count) c.row_bounds.ensures)

pub load-requires-clause-room : goal.load-requires-clause-room
load-requires-clause-room g c = subst (λ b. HasRoomToLoad b c.args.kept) (sym c.row_bounds.ensures) c.requires.room

pub load-requires-clause-long : goal.load-requires-clause-long
load-requires-clause-long g c =
    let is = present_as c.args.bytes.now c.requires.laid c.requires.present in
    let long = present_long c.args.bytes.now is c.requires.wide in
    omega (arith, long, ap length c.requires.table)

pub returns-in-Ok-clause-kept : goal.returns-in-Ok-clause-kept
returns-in-Ok-clause-kept g c =
    kept_as c.args.bytes.now (present_as c.args.bytes.now c.requires.laid c.requires.present) g.G.Grammar.fault_at c.args.row
    _ _ _ c.row_bounds.ensures c.row_layout.ensures c.requires.table c.in-Ok.loaded c.in-Ok.ensures.named

pub returns-in-Ok-clause-loaded : goal.returns-in-Ok-clause-loaded
returns-in-Ok-clause-loaded g c = record {
  found = λ s told. loaded_as c.args.bytes.now (present_as c.args.bytes.now c.requires.laid c.requires.present) g.G.Grammar.fault_at c.args.row
      _ _ _ c.row_bounds.ensures c.row_layout.ensures c.requires.table c.in-Ok.loaded s (c.in-Ok.ensures.loaded.found s told);
  looks = looks_as _ _ _ _ (omega (arith, ap (λ b. b.most) c.row_bounds.ensures)) c.in-Ok.ensures.loaded.looks;
}

pub returns-in-Err-clause-loaded : goal.returns-in-Err-clause-loaded
returns-in-Err-clause-loaded g c = record {
  found = tt;
  looks = looks_failed _ _ _ (omega (arith, ap (λ b. b.most) c.row_bounds.ensures)) c.in-Err.ensures.loaded.looks;
}
