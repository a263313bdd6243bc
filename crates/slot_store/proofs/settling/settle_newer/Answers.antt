use Rattle.std.proofs.Common.{◌≡◌, ◌*◌, false, ℕ, List, length, get_or, ◌∙◌, ap, subst, arith}
use Rattle.std.specs.Prelude.{◌||◌}
use Rattle.std.proofs.lemmas.List.{length-replicate}
use Rattle.pages.specs.Counted.{lookings, tidyings}
use Rattle.pages.proofs.Counting.{few_more}
use Rattle.pages.proofs.Looking.{reads_more}
use Rattle.record_pages.specs.Plans.{is_among}
use Rattle.slot_store.specs.Areas.{layout_of}
use Rattle.slot_store.specs.Limits.{settlings}
use Rattle.slot_store.proofs.Entries.{entries_inside}
use Rattle.slot_store.proofs.Alike.{like_shots}
use Rattle.slot_store.proofs.Wipings.Marks.{marks_of}
use Rattle.slot_store.proofs.Wipings.NewerSettled.{newer_blank, newer_body, newer_counts, newer_gate, newer_mute, newer_rests, newer_unnamed}
use Rattle.slot_store.proofs.Wipings.Wiping.{on_ok}
use Rattle.slot_store.proofs.settling.settle_newer.Goals as goal

pub wipe_table-requires-clause-counts : goal.wipe_table-requires-clause-counts
wipe_table-requires-clause-counts g c =
    newer_counts c.args.pager.now c.requires.turn (g.D.Disk.state c.args.disk.now) c.requires.settling.ready.settled c.requires.settling.shown

pub wipe_table-requires-clause-mute : goal.wipe_table-requires-clause-mute
wipe_table-requires-clause-mute g c =
    newer_mute c.args.pager.now c.requires.turn (g.D.Disk.state c.args.disk.now) c.requires.settling.ready.settled c.requires.settling.shown
    c.args.gate c.args.other.now c.requires.read

pub wipe_table-requires-clause-unnamed : goal.wipe_table-requires-clause-unnamed
wipe_table-requires-clause-unnamed g c =
    let marks = marks_of c.args.named.now _ c.args.pager.now.area.pages c.args.pager.now.kept.numbers.items c.requires.marks
    (subst (λ (ns : List ℕ). (n : ℕ) → get_or c.mark_pages.new.named n false ≡ (get_or c.args.named.now n false || is_among ns n))
    c.deref.ensures.value c.mark_pages.ensures.marks) in
    newer_unnamed c.args.pager.now c.requires.turn (g.D.Disk.state c.args.disk.now) c.requires.settling.ready.settled c.requires.settling.shown _ marks

pub wipe_table-requires-clause-marks : goal.wipe_table-requires-clause-marks
wipe_table-requires-clause-marks g c =
    c.mark_pages.ensures.long ∙ ap length c.requires.marks ∙ length-replicate c.args.pager.now.area.pages false

pub mark_pages-requires : goal.mark_pages-requires
mark_pages-requires g c = record {
  inside = entries_inside c.args.pager.now.area c.deref.result.now c.args.pager.now.kept.numbers.items c.args.named.now
      c.deref.ensures.value c.requires.marks c.args.pager.now.entries;
}

pub returns : goal.returns
returns g c =
    let pager = c.args.pager.now in
    let start = g.D.Disk.state c.args.disk.now in
    let now = g.D.Disk.state c.wipe_table.new.disk in
    let settled = c.requires.settling.ready.settled in
    let marks = marks_of c.args.named.now _ c.args.pager.now.area.pages c.args.pager.now.kept.numbers.items c.requires.marks
    (subst (λ (ns : List ℕ). (n : ℕ) → get_or c.mark_pages.new.named n false ≡ (get_or c.args.named.now n false || is_among ns n))
    c.deref.ensures.value c.mark_pages.ensures.marks) in
    let span = like_shots pager.area start settled now c.wipe_table.ensures.shots.any_moment in
    record {
      any_moment = span;
      done = on_ok c.wipe_table.result
          (λ tidied. newer_rests pager c.requires.turn start settled c.requires.settling.shown c.mark_pages.new.named marks now span tidied)
          c.wipe_table.ensures.done;
      settled = c.wipe_table.ensures.settled;
      calls = c.wipe_table.ensures.shots.calls;
      still = λ rests. c.wipe_table.ensures.still
          (newer_gate pager c.requires.turn start settled c.requires.settling.shown c.args.gate c.args.other.now c.requires.read rests)
          (newer_body pager c.requires.turn start settled c.requires.settling.shown c.args.gate c.args.other.now c.requires.read rests)
          (newer_blank pager c.requires.turn start settled c.requires.settling.shown c.mark_pages.new.named marks rests);
      reads = reads_more (lookings (layout_of pager.area)) (2 * lookings (layout_of pager.area)) start now (omega arith) c.wipe_table.ensures.reads;
      few = few_more (tidyings (layout_of pager.area)) (settlings pager.area) start now _ (omega arith) c.wipe_table.ensures.few;
    }
