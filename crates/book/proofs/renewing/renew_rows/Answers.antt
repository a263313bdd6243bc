use Rattle.std.proofs.Common.{Bool, Err, None, Ok, Option, arith, get_or, length, refl, subst, sym, ◌*◌, ◌+◌, ◌∙◌}
use Rattle.std.proofs.lemmas.List.{get_or_default}
use Rattle.dr_disk.specs.Spans.{Span}
use Rattle.dr_disk.proofs.Calling.{then_failed}
use Rattle.pages.proofs.Around.{reads_both}
use Rattle.book_model.specs.Rows.{Row}
use Rattle.book_store.specs.Committing.{KeepsRows, ReadsOutsideBook, call_of}
use Rattle.book_store.specs.Layout.{book_layout}
use Rattle.book_store.specs.Shown.{BookRow}
use Rattle.book_store.proofs.Composed.{stay}
use Rattle.session_model.specs.Clients.{Client}
use Rattle.book.specs.Opening.{IsRowRead}
use Rattle.book.specs.Renewing.{missed_by}
use Rattle.book_store.specs.declared.layout.TheConstants.{ROW_MOST}
use Rattle.book.proofs.Few.{few_then, no_drops}
use Rattle.book.proofs.Imaged.{has_rows}
use Rattle.book.proofs.Renewed.{held_long, name_now, none_yet, renewed_next}
use Rattle.book.proofs.Staged.{unstaged}
use Rattle.book.proofs.renewing.renew_rows.Goals as goal

pub rows-init : goal.rows-init
rows-init g c =
    let first = c.args.store.now in
    let start = g.D.Disk.state c.args.disk.now in
    record {
      so = none_yet c.args.rows.now first start c.may_stage.ensures.over
          (has_rows c.resting_books.ensures first start c.requires.ready);
      few = record { told = λ m is. (m, is, omega arith) };
      drops = no_drops first c.requires.ready.dropped;
      room = c.requires.room;
    }

pub renew_row-requires-clause-once : goal.renew_row-requires-clause-once
renew_row-requires-clause-once g c =
    c.rows.invariant.so.unstaged c.rows.at (omega arith)
    ∙ unstaged c.args.store.now c.rows.at (omega (arith, c.rows-test.true, c.requires.long)) c.requires.ready.few c.requires.ready.unstaged

pub renew_row-requires-clause-name : goal.renew_row-requires-clause-name
renew_row-requires-clause-name g c = λ session is.
    name_now c.args.rows.now c.args.store.now (g.D.Disk.state c.args.disk.now) c.rows.store (g.D.Disk.state c.rows.disk) c.rows.at
    c.rows.invariant.so g.K.Kem.mechanism c.requires.ready c.requires.read session
    (get_or_default c.args.rows.now c.rows.at None c.index-rows-at.result c.rows-test.true ∙ sym c.index-rows-at.is ∙ is)

pub renew_row-requires-clause-read : goal.renew_row-requires-clause-read
renew_row-requires-clause-read g c =
    let k = g.K.Kem.mechanism in
    let row = get_or_default c.args.rows.now c.rows.at None c.index-rows-at.result c.rows-test.true ∙ sym c.index-rows-at.is in
    subst (λ (o : Option (Row Client)). IsRowRead k (get_or c.rows.store.held c.rows.at None) o) row
    (subst (λ (h : Option BookRow). IsRowRead k h (get_or c.args.rows.now c.rows.at None))
    (sym (c.rows.invariant.so.later c.rows.at (omega arith))) (c.requires.read c.rows.at))

pub returns-in-Err-clause-any_moment : goal.returns-in-Err-clause-any_moment
returns-in-Err-clause-any_moment g c =
    let first = c.args.store.now in
    let start = g.D.Disk.state c.args.disk.now in
    let mid = g.D.Disk.state c.rows.disk in
    let end = g.D.Disk.state c.renew_row.new.disk in
    let so = c.rows.invariant.so in
    stay first.rows first.held start mid so.still end so.any_moment
    (subst (λ n. Span mid end (KeepsRows n first.held mid)) so.rows_are (c.renew_row.ensures.any_moment first.held so.over))

pub returns-in-Err-clause-reads : goal.returns-in-Err-clause-reads
returns-in-Err-clause-reads g c =
    let first = c.args.store.now in
    let start = g.D.Disk.state c.args.disk.now in
    let mid = g.D.Disk.state c.rows.disk in
    let end = g.D.Disk.state c.renew_row.new.disk in
    let so = c.rows.invariant.so in
    reads_both (book_layout first.rows) start mid end so.reads
    (subst (λ n. ReadsOutsideBook n mid end) so.rows_are c.renew_row.ensures.reads)

pub returns-in-Err-clause-went : goal.returns-in-Err-clause-went
returns-in-Err-clause-went g c =
    let first = c.args.store.now in
    let start = g.D.Disk.state c.args.disk.now in
    let mid = g.D.Disk.state c.rows.disk in
    let end = g.D.Disk.state c.renew_row.new.disk in
    let so = c.rows.invariant.so in
    then_failed {T = Unit} {U = Unit} {V = Bool} call_of call_of call_of tt c.in-Err.fault c.in-Err.fault start mid end
    (KeepsRows first.rows first.held start) refl so.any_moment so.went c.in-Err.ensures.went

pub returns-in-Err-clause-few : goal.returns-in-Err-clause-few
returns-in-Err-clause-few g c =
    let start = g.D.Disk.state c.args.disk.now in
    let mid = g.D.Disk.state c.rows.disk in
    let end = g.D.Disk.state c.renew_row.new.disk in
    few_then {T = Unit} {U = Bool} {V = Unit} (ROW_MOST * c.rows.at) ROW_MOST (ROW_MOST * length c.args.rows.now)
    missed_by missed_by missed_by tt start mid end (Err c.in-Err.fault) (Err c.in-Err.fault) refl
    (omega (arith, c.rows-test.true)) c.rows.invariant.few c.in-Err.ensures.few

pub returns-clause-few : goal.returns-clause-few
returns-clause-few g c = record {
  told = λ m is.
      let was = c.rows.invariant.few.told m is in
      (was.0, was.1, omega (arith, was.2, c.rows-test.false, c.rows.auto.at-end));
}

pub rows-preserved : goal.rows-preserved
rows-preserved g c =
    let k = g.K.Kem.mechanism in
    let first = c.args.store.now in
    let rows = c.args.rows.now in
    let start = g.D.Disk.state c.args.disk.now in
    record {
      so = renewed_next g.D.Disk.state rows first start c.rows.store c.rows.disk c.rows.at c.rows.invariant.so
          c.in-Ok.field-0 c.index-rows-at.result c.renew_row.new.store c.renew_row.new.disk
          (get_or_default rows c.rows.at None c.index-rows-at.result c.rows-test.true ∙ sym c.index-rows-at.is)
          (omega (arith, c.rows-test.true, c.requires.long, c.requires.ready.few, held_long k rows first start c.requires.ready))
          c.in-Ok.ensures.renews;
      few = few_then {T = Unit} {U = Bool} {V = Unit} (ROW_MOST * c.rows.at) ROW_MOST (ROW_MOST * (c.rows.at + 1)) missed_by missed_by
          missed_by tt start (g.D.Disk.state c.rows.disk) (g.D.Disk.state c.renew_row.new.disk) (Ok c.in-Ok.field-0) (Ok tt) refl
          (omega arith) c.rows.invariant.few c.in-Ok.ensures.few;
      drops = c.renew_row.ensures.drops c.rows.invariant.drops;
      room = c.renew_row.ensures.room;
    }
