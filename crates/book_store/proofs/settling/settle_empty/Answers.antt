use Rattle.std.proofs.Common.{◌*◌, false, true, ap, length, refl, ◌∙◌, arith}
use Rattle.std.proofs.lemmas.List.{length-replicate}
use Rattle.dr_disk.specs.Called.{itself}
use Rattle.dr_disk.proofs.Calling.{failed_as, then_any}
use Rattle.pages.specs.Counted.{lookings, tidyings}
use Rattle.pages.proofs.Counting.{few_more, few_then}
use Rattle.pages.proofs.Looking.{reads_more, reads_twice, untouched_twice}
use Rattle.book_store.specs.Layout.{book_layout}
use Rattle.book_store.specs.Counts.{settlings}
use Rattle.book_store.specs.Locating.{store_with}
use Rattle.book_store.specs.Rows.{book_names}
use Rattle.book_store.proofs.Openings.Likes.{both_moments, left_like, like_shots}
use Rattle.book_store.proofs.Openings.EmptySettled.{empty_blank, empty_body, empty_closed, empty_gate, later_closed, twice_rests}
use Rattle.book_store.proofs.Openings.NothingOpen.{none_counts, none_mute, none_unnamed, second_read}
use Rattle.book_store.proofs.Openings.PageMarks.{no_marks}
use Rattle.std.proofs.lemmas.Result.{on_ok_weaker}
use Rattle.book_store.specs.declared.layout.TheConstants.{BOOK_ROWS, ROW_PAGES}
use Rattle.book_store.proofs.settling.settle_empty.Goals as goal

pub wipe_table-requires-clause-counts : goal.wipe_table-requires-clause-counts
wipe_table-requires-clause-counts g c =
    let start = g.D.Disk.state c.args.disk.now in
    none_counts book_names (book_layout c.args.desk.now.rows) start (empty_closed (store_with c.args.desk.now c.args.held.now) c.requires.settling.marked c.requires.turn start c.requires.settling.ready.settled c.requires.settling.shown)

pub wipe_table-requires-clause-unnamed : goal.wipe_table-requires-clause-unnamed
wipe_table-requires-clause-unnamed g c =
    let start = g.D.Disk.state c.args.disk.now in
    none_unnamed book_names (book_layout c.args.desk.now.rows) start (empty_closed (store_with c.args.desk.now c.args.held.now) c.requires.settling.marked c.requires.turn start c.requires.settling.ready.settled c.requires.settling.shown)
    c.args.named.now

pub wipe_table-requires-clause-mute : goal.wipe_table-requires-clause-mute
wipe_table-requires-clause-mute g c =
    let start = g.D.Disk.state c.args.disk.now in
    none_mute book_names (book_layout c.args.desk.now.rows) start (empty_closed (store_with c.args.desk.now c.args.held.now) c.requires.settling.marked c.requires.turn start c.requires.settling.ready.settled c.requires.settling.shown)
    false c.args.first_gate c.args.first.now c.requires.settling.ready.settled c.requires.read.first_is

pub returns-in-Err : goal.returns-in-Err
returns-in-Err g c =
    let store = store_with c.args.desk.now c.args.held.now in
    let marked = c.requires.settling.marked in
    let start = g.D.Disk.state c.args.disk.now in
    let a = g.D.Disk.state c.wipe_table.new.disk in
    record {
      any_moment = like_shots store.rows start c.requires.settling.ready.settled a c.wipe_table.ensures.shots.any_moment;
      done = tt;
      settled = tt;
      calls = failed_as itself itself _ _ _ _ refl c.in-Err.ensures.shots.calls;
      still = λ rests. c.wipe_table.ensures.still
          (empty_gate store marked c.requires.turn start rests false c.args.first_gate c.args.first.now c.requires.read.first_is)
          (empty_body store marked c.requires.turn start rests false c.args.first_gate c.args.first.now c.requires.read.first_is)
          (empty_blank store marked c.requires.turn start rests c.args.named.now);
      reads = reads_more (lookings (book_layout store.rows)) (2 * lookings (book_layout store.rows)) start a (omega arith) c.wipe_table.ensures.reads;
      few = few_more {T = Unit {0}} (tidyings (book_layout store.rows)) (settlings store.rows) start a _ (omega arith) c.in-Err.ensures.few;
    }

pub wipe_table-requires-2-clause-counts : goal.wipe_table-requires-2-clause-counts
wipe_table-requires-2-clause-counts g c =
    let start = g.D.Disk.state c.args.disk.now in
    let a = g.D.Disk.state c.wipe_table.new.disk in
    none_counts book_names (book_layout c.args.desk.now.rows) a
    (later_closed (store_with c.args.desk.now c.args.held.now) c.requires.settling.marked c.requires.turn start c.requires.settling.ready.settled c.requires.settling.shown a c.wipe_table.ensures.shots.any_moment)

pub wipe_table-requires-2-clause-unnamed : goal.wipe_table-requires-2-clause-unnamed
wipe_table-requires-2-clause-unnamed g c =
    let start = g.D.Disk.state c.args.disk.now in
    let a = g.D.Disk.state c.wipe_table.new.disk in
    none_unnamed book_names (book_layout c.args.desk.now.rows) a
    (later_closed (store_with c.args.desk.now c.args.held.now) c.requires.settling.marked c.requires.turn start c.requires.settling.ready.settled c.requires.settling.shown a c.wipe_table.ensures.shots.any_moment)
    c.args.named.now

pub wipe_table-requires-2-clause-read : goal.wipe_table-requires-2-clause-read
wipe_table-requires-2-clause-read g c =
    let start = g.D.Disk.state c.args.disk.now in
    let a = g.D.Disk.state c.wipe_table.new.disk in
    second_read (book_layout c.args.desk.now.rows) c.args.named.now (λ n. no_marks c.args.named.now (ROW_PAGES * BOOK_ROWS) n c.requires.marks) start a (g.met.D.Disk.lawful c.wipe_table.new.disk) c.in-Ok.ensures.done _ c.requires.read.second_is

pub wipe_table-requires-2-clause-mute : goal.wipe_table-requires-2-clause-mute
wipe_table-requires-2-clause-mute g c =
    let start = g.D.Disk.state c.args.disk.now in
    let a = g.D.Disk.state c.wipe_table.new.disk in
    none_mute book_names (book_layout c.args.desk.now.rows) a
    (later_closed (store_with c.args.desk.now c.args.held.now) c.requires.settling.marked c.requires.turn start c.requires.settling.ready.settled c.requires.settling.shown a c.wipe_table.ensures.shots.any_moment)
    true c.args.second_gate c.args.second.now c.in-Ok.ensures.settled
    (second_read (book_layout c.args.desk.now.rows) c.args.named.now (λ n. no_marks c.args.named.now (ROW_PAGES * BOOK_ROWS) n c.requires.marks) start a (g.met.D.Disk.lawful c.wipe_table.new.disk) c.in-Ok.ensures.done _ c.requires.read.second_is)

pub returns : goal.returns
returns g c =
    let store = store_with c.args.desk.now c.args.held.now in
    let marked = c.requires.settling.marked in
    let start = g.D.Disk.state c.args.disk.now in
    let a = g.D.Disk.state c.wipe_table.new.disk in
    let b = g.D.Disk.state c.wipe_table-2.new.disk in
    let lawful = g.met.D.Disk.lawful c.wipe_table.new.disk in
    let settled = c.requires.settling.ready.settled in
    let first = like_shots store.rows start settled a c.wipe_table.ensures.shots.any_moment in
    let next = like_shots store.rows a c.in-Ok.ensures.settled b c.wipe_table-2.ensures.shots.any_moment in
    let span = both_moments store.rows start a b lawful (left_like store.rows start settled a first) first next in
    record {
      any_moment = span;
      done = on_ok_weaker c.wipe_table-2.result
          (λ tidied. twice_rests store marked c.requires.turn c.args.named.now (λ n. no_marks c.args.named.now (ROW_PAGES * BOOK_ROWS) n c.requires.marks)
          start a b lawful c.in-Ok.ensures.done tidied (left_like store.rows start settled b span))
          c.wipe_table-2.ensures.done;
      settled = c.wipe_table-2.ensures.settled;
      calls = then_any _ start a b _ c.wipe_table-2.result first c.in-Ok.ensures.shots.calls c.wipe_table-2.ensures.shots.calls;
      still = λ rests.
          let one = c.wipe_table.ensures.still
          (empty_gate store marked c.requires.turn start rests false c.args.first_gate c.args.first.now c.requires.read.first_is)
          (empty_body store marked c.requires.turn start rests false c.args.first_gate c.args.first.now c.requires.read.first_is)
          (empty_blank store marked c.requires.turn start rests c.args.named.now) in
          untouched_twice start a b one (c.wipe_table-2.ensures.still
          (empty_gate store marked c.requires.turn start rests true c.args.second_gate c.args.second.now c.requires.read.second_is)
          (empty_body store marked c.requires.turn start rests true c.args.second_gate c.args.second.now c.requires.read.second_is)
          (empty_blank store marked c.requires.turn a (rests.0, one.unwritten.seen ∙ rests.1, rests.2) c.args.named.now));
      reads = reads_twice (lookings (book_layout store.rows)) (lookings (book_layout store.rows)) (2 * lookings (book_layout store.rows))
          start a b (omega arith) c.wipe_table.ensures.reads c.wipe_table-2.ensures.reads;
      few = few_then (tidyings (book_layout store.rows)) (tidyings (book_layout store.rows)) (settlings store.rows) _ start a b _ (omega arith)
          c.in-Ok.ensures.few c.wipe_table-2.ensures.few;
    }

pub wipe_table-requires-clause-marks : goal.wipe_table-requires-clause-marks
wipe_table-requires-clause-marks g c =
    ap length c.requires.marks ∙ length-replicate (ROW_PAGES * BOOK_ROWS) false

pub wipe_table-requires-2-clause-marks : goal.wipe_table-requires-2-clause-marks
wipe_table-requires-2-clause-marks g c =
    ap length c.requires.marks ∙ length-replicate (ROW_PAGES * BOOK_ROWS) false
