use Rattle.std.proofs.Common.{Err, Ok, subst, sym, ◌≤◌}
use Rattle.book_store.specs.Layout.{HasBook}
use Rattle.book_store.specs.Staging.{IsStagedOver}
use Rattle.book_store.specs.Store.{BookStore}
use Rattle.book.specs.Changing.{TakesPlaceOf}
use Rattle.book_store.specs.declared.layout.TheConstants.{BOOK_ROWS}
use Rattle.book.proofs.Staged.{unstaged}
use Rattle.book.proofs.storing.clear_row.Goals as goal

pub settle-requires-clause-may : goal.settle-requires-clause-may
settle-requires-clause-may g c =
    let start = g.D.Disk.state c.args.disk.now in
    let old = c.args.store.now in
    record {
      within = subst (λ (s : BookStore). HasBook s.rows start) (sym c.stage_empty.ensures) c.requires.ready.within;
      standing = old.held;
      over = subst (λ (s : BookStore). IsStagedOver s old.held start) (sym c.stage_empty.ensures)
          (c.staged_empty.ensures old.held c.may_stage.ensures.over);
    }

pub returns-in-Ok : goal.returns-in-Ok
returns-in-Ok g c =
    let start = g.D.Disk.state c.args.disk.now in
    let end = g.D.Disk.state c.settle.new.disk in
    let old = c.args.store.now in
    subst (λ (s : BookStore). TakesPlaceOf {T = Unit} 0 s c.settle.new.store old.held start end (Ok tt)) c.stage_empty.ensures
    (c.in-Ok.ensures old.held (subst (λ (s : BookStore). IsStagedOver s old.held start) (sym c.stage_empty.ensures)
    (c.staged_empty.ensures old.held c.may_stage.ensures.over)))

pub returns-in-Err : goal.returns-in-Err
returns-in-Err g c =
    let start = g.D.Disk.state c.args.disk.now in
    let end = g.D.Disk.state c.settle.new.disk in
    let old = c.args.store.now in
    subst (λ (s : BookStore). TakesPlaceOf {T = Unit} 0 s c.settle.new.store old.held start end (Err c.in-Err.fault)) c.stage_empty.ensures
    (c.in-Err.ensures old.held (subst (λ (s : BookStore). IsStagedOver s old.held start) (sym c.stage_empty.ensures)
    (c.staged_empty.ensures old.held c.may_stage.ensures.over)))

pub staged_empty-requires-clause-once : goal.staged_empty-requires-clause-once
staged_empty-requires-clause-once g c = unstaged c.args.store.now c.args.row c.requires.row c.requires.ready.few c.requires.ready.unstaged

pub stage_empty-requires-clause-once : goal.stage_empty-requires-clause-once
stage_empty-requires-clause-once g c = unstaged c.args.store.now c.args.row c.requires.row c.requires.ready.few c.requires.ready.unstaged

pub settle-requires-clause-few : goal.settle-requires-clause-few
settle-requires-clause-few g c =
    subst (λ (s : BookStore). s.rows ≤ BOOK_ROWS) (sym c.stage_empty.ensures) c.requires.ready.few
