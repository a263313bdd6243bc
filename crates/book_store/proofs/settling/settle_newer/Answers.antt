use Rattle.std.proofs.Common.{◌*◌, false, length, ◌∙◌, ap, arith}
use Rattle.std.proofs.lemmas.List.{length-replicate}
use Rattle.pages.specs.Counted.{lookings, tidyings}
use Rattle.pages.proofs.Counting.{few_more}
use Rattle.pages.proofs.Looking.{reads_more}
use Rattle.book_store.specs.Counts.{settlings}
use Rattle.book_store.specs.Layout.{book_layout}
use Rattle.book_store.specs.Locating.{store_with}
use Rattle.book_store.proofs.Openings.Likes.{like_shots}
use Rattle.book_store.proofs.Openings.RowMarks.{held_marks}
use Rattle.book_store.proofs.Openings.NewerSettled.{newer_blank, newer_body, newer_counts, newer_gate, newer_mute, newer_rests, newer_unnamed}
use Rattle.std.proofs.lemmas.Result.{on_ok_weaker}
use Rattle.book_store.specs.declared.layout.TheConstants.{BOOK_ROWS, ROW_PAGES}
use Rattle.book_store.proofs.settling.settle_newer.Goals as goal

pub wipe_table-requires-clause-counts : goal.wipe_table-requires-clause-counts
wipe_table-requires-clause-counts g c =
    newer_counts (store_with c.args.desk.now c.args.rows.now) c.requires.settling.marked c.requires.turn
    (g.D.Disk.state c.args.disk.now) c.requires.settling.ready.settled c.requires.settling.shown

pub wipe_table-requires-clause-mute : goal.wipe_table-requires-clause-mute
wipe_table-requires-clause-mute g c =
    newer_mute (store_with c.args.desk.now c.args.rows.now) c.requires.settling.marked c.requires.turn
    (g.D.Disk.state c.args.disk.now) c.requires.settling.ready.settled c.requires.settling.shown
    c.args.gate c.args.other.now c.requires.read

pub wipe_table-requires-clause-unnamed : goal.wipe_table-requires-clause-unnamed
wipe_table-requires-clause-unnamed g c =
    newer_unnamed (store_with c.args.desk.now c.args.rows.now) c.requires.settling.marked c.requires.turn
    (g.D.Disk.state c.args.disk.now) c.requires.settling.ready.settled c.requires.settling.shown c.mark_rows.new.named
    (held_marks c.args.desk.now c.args.rows.now c.requires.settling.marked c.args.named.now c.mark_rows.new.named
    c.requires.marks c.mark_rows.ensures.marks)

pub wipe_table-requires-clause-marks : goal.wipe_table-requires-clause-marks
wipe_table-requires-clause-marks g c =
    c.mark_rows.ensures.long ∙ ap length c.requires.marks ∙ length-replicate (ROW_PAGES * BOOK_ROWS) false

pub mark_rows-requires-clause-room : goal.mark_rows-requires-clause-room
mark_rows-requires-clause-room g c = ap length c.requires.marks ∙ length-replicate (ROW_PAGES * BOOK_ROWS) false

pub returns : goal.returns
returns g c =
    let store = store_with c.args.desk.now c.args.rows.now in
    let start = g.D.Disk.state c.args.disk.now in
    let now = g.D.Disk.state c.wipe_table.new.disk in
    let marked = c.requires.settling.marked in
    let settled = c.requires.settling.ready.settled in
    let shown = c.requires.settling.shown in
    let marks = held_marks c.args.desk.now c.args.rows.now marked c.args.named.now c.mark_rows.new.named
    c.requires.marks c.mark_rows.ensures.marks in
    let span = like_shots store.rows start settled now c.wipe_table.ensures.shots.any_moment in
    record {
      any_moment = span;
      done = on_ok_weaker c.wipe_table.result
          (λ tidied. newer_rests store marked c.requires.turn start settled shown c.mark_rows.new.named marks now span tidied)
          c.wipe_table.ensures.done;
      settled = c.wipe_table.ensures.settled;
      calls = c.wipe_table.ensures.shots.calls;
      still = λ rests. c.wipe_table.ensures.still
          (newer_gate store marked c.requires.turn start settled shown c.args.gate c.args.other.now c.requires.read rests)
          (newer_body store marked c.requires.turn start settled shown c.args.gate c.args.other.now c.requires.read rests)
          (newer_blank store marked c.requires.turn start settled shown c.mark_rows.new.named marks rests);
      reads = reads_more (lookings (book_layout store.rows)) (2 * lookings (book_layout store.rows)) start now (omega arith)
          c.wipe_table.ensures.reads;
      few = few_more (tidyings (book_layout store.rows)) (settlings store.rows) start now _ (omega arith) c.wipe_table.ensures.few;
    }
