use Rattle.std.proofs.Common.{Err, Ok, ap, arith, subst, sym, take, ◌≤◌}
use Rattle.book_store.specs.Committing.{StagesRow}
use Rattle.book_store.specs.Layout.{HasBook}
use Rattle.book_store.specs.Store.{BookStore, with_row, writes_at}
use Rattle.book_store.specs.declared.errors.StoreFault.{StoreFault}
use Rattle.book.specs.Changing.{TakesPlaceOf}
use Rattle.book.proofs.Staged.{stage_failed, then_settled}
use Rattle.book_store.specs.declared.layout.TheConstants.{BOOK_ROWS}
use Rattle.book.proofs.Staged.{unstaged}
use Rattle.book.proofs.storing.put_row.Goals as goal

pub returns-in-Err-clause-takes : goal.returns-in-Err-clause-takes
returns-in-Err-clause-takes g c =
    let start = g.D.Disk.state c.args.disk.now in
    let mid = g.D.Disk.state c.stage.new.disk in
    let old = c.args.store.now in
    let text = take c.args.len c.args.text.now.items in
    let stages = subst (λ (s : BookStore). StagesRow {T = Unit} {E = StoreFault} s old.held start mid (Err c.in-Err.fault))
    c.stage.ensures.next (c.in-Err.ensures.stages old.held c.may_stage.ensures.over) in
    stage_failed (writes_at old c.args.row text) (with_row old c.args.row c.args.name text) old.held start mid
    stages.any_moment stages.still c.in-Err.fault c.stage.new.self (g.met.D.Disk.lawful c.stage.new.disk)
    (ap (λ (s : BookStore). s.rows) c.stage.ensures.next) c.stage.ensures.reads c.in-Err.ensures.calls c.in-Err.ensures.kind

pub settle-requires-clause-may : goal.settle-requires-clause-may
settle-requires-clause-may g c =
    let start = g.D.Disk.state c.args.disk.now in
    let mid = g.D.Disk.state c.stage.new.disk in
    let old = c.args.store.now in
    let stages = c.in-Ok.ensures.stages old.held c.may_stage.ensures.over in
    record {
      within = subst (λ (s : BookStore). HasBook s.rows mid) (sym c.stage.ensures.next)
          (omega (arith, c.requires.ready.within, stages.any_moment.size));
      standing = old.held;
      over = stages.staged;
    }

pub returns-in-Ok-settle-clause-takes : goal.returns-in-Ok-settle-clause-takes
returns-in-Ok-settle-clause-takes g c =
    let start = g.D.Disk.state c.args.disk.now in
    let mid = g.D.Disk.state c.stage.new.disk in
    let end = g.D.Disk.state c.settle.new.disk in
    let old = c.args.store.now in
    let text = take c.args.len c.args.text.now.items in
    let over = (c.in-Ok.ensures.stages old.held c.may_stage.ensures.over).staged in
    let stages = subst (λ (s : BookStore). StagesRow {T = Unit} {E = StoreFault} s old.held start mid (Ok tt))
    c.stage.ensures.next (c.in-Ok.ensures.stages old.held c.may_stage.ensures.over) in
    then_settled (writes_at old c.args.row text) (with_row old c.args.row c.args.name text) old.held start mid
    stages.any_moment stages.still end c.in-Ok.ensures.calls c.stage.ensures.reads c.settle.new.store (Ok tt)
    (subst (λ (s : BookStore). TakesPlaceOf {T = Unit} 0 s c.settle.new.store old.held mid end (Ok tt)) c.stage.ensures.next
    (c.in-Ok-settle.ensures old.held over))

pub returns-in-Err-settle-clause-takes : goal.returns-in-Err-settle-clause-takes
returns-in-Err-settle-clause-takes g c =
    let start = g.D.Disk.state c.args.disk.now in
    let mid = g.D.Disk.state c.stage.new.disk in
    let end = g.D.Disk.state c.settle.new.disk in
    let old = c.args.store.now in
    let text = take c.args.len c.args.text.now.items in
    let over = (c.in-Ok.ensures.stages old.held c.may_stage.ensures.over).staged in
    let stages = subst (λ (s : BookStore). StagesRow {T = Unit} {E = StoreFault} s old.held start mid (Ok tt))
    c.stage.ensures.next (c.in-Ok.ensures.stages old.held c.may_stage.ensures.over) in
    then_settled (writes_at old c.args.row text) (with_row old c.args.row c.args.name text) old.held start mid
    stages.any_moment stages.still end c.in-Ok.ensures.calls c.stage.ensures.reads c.settle.new.store (Err c.in-Err-settle.fault)
    (subst (λ (s : BookStore). TakesPlaceOf {T = Unit} 0 s c.settle.new.store old.held mid end (Err c.in-Err-settle.fault))
    c.stage.ensures.next
    (c.in-Err-settle.ensures old.held over))

pub stage-requires-clause-once : goal.stage-requires-clause-once
stage-requires-clause-once g c = unstaged c.args.store.now c.args.row c.requires.row c.requires.ready.few c.requires.ready.unstaged

pub settle-requires-clause-few : goal.settle-requires-clause-few
settle-requires-clause-few g c =
    subst (λ (s : BookStore). s.rows ≤ BOOK_ROWS) (sym c.stage.ensures.next) c.requires.ready.few
