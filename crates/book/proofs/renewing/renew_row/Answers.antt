use Rattle.std.proofs.Common.{Err, List, Ok, ap, arith, refl, subst, sym, true, ℕ, ◌∙◌}
use Rattle.book_model.specs.Rows.{Row}
use Rattle.book_store.specs.Committing.{StagesRow}
use Rattle.book_store.specs.Store.{BookStore, IsNewName, writes_at}
use Rattle.book_store.specs.declared.layout.TheConstants.{ROW_MOST}
use Rattle.session_model.specs.Clients.{Client}
use Rattle.std.specs.Prelude.{take}
use Rattle.book.specs.Renewing.{missed_by}
use Rattle.book.proofs.Few.{few_as, few_of, staged_drops, text_few}
use Rattle.book_store.specs.declared.errors.StoreFault.{StoreFault}
use Rattle.book.proofs.renewing.renew_row.Goals as goal

pub stage-requires-clause-name : goal.stage-requires-clause-name
stage-requires-clause-name g c =
    subst (λ (n : List ℕ). IsNewName c.args.store.now c.args.at n)
    (sym (c.copied.ensures ∙ ap (λ (r : Row Client). r.name) c.row.view_is)) (c.requires.name c.in-Some.row c.in-Some.is)

pub returns-in-Ok-clause-few : goal.returns-in-Ok-clause-few
returns-in-Ok-clause-few g c =
    let over = c.requires.may.over in
    let text = take c.write_now-len.result c.write_now-len.new.text.items in
    few_as ROW_MOST ROW_MOST missed_by missed_by (g.D.Disk.state c.args.disk.now) (g.D.Disk.state c.stage.new.disk) (Ok tt) (Ok true) refl
    (omega arith)
    (few_of (writes_at c.args.store.now c.args.at text) ROW_MOST (g.D.Disk.state c.args.disk.now) (g.D.Disk.state c.stage.new.disk)
    (Ok tt) (text_few c.args.store.now c.args.at c.write_now-len.new.text c.write_now-len.result c.write_now-len.ensures.text)
    (c.in-Ok.ensures.stages c.requires.may.standing over).any_moment.passes c.in-Ok.ensures.calls)

pub returns-in-Err-clause-few : goal.returns-in-Err-clause-few
returns-in-Err-clause-few g c =
    let over = c.requires.may.over in
    let text = take c.write_now-len.result c.write_now-len.new.text.items in
    few_as ROW_MOST ROW_MOST missed_by missed_by (g.D.Disk.state c.args.disk.now) (g.D.Disk.state c.stage.new.disk)
    (Err c.in-Err.fault) (Err c.in-Err.fault) refl (omega arith)
    (few_of (writes_at c.args.store.now c.args.at text) ROW_MOST (g.D.Disk.state c.args.disk.now) (g.D.Disk.state c.stage.new.disk)
    (Err c.in-Err.fault) (text_few c.args.store.now c.args.at c.write_now-len.new.text c.write_now-len.result c.write_now-len.ensures.text)
    (c.in-Err.ensures.stages c.requires.may.standing over).any_moment.passes c.in-Err.ensures.calls)

pub returns-in-Ok-clause-drops : goal.returns-in-Ok-clause-drops
returns-in-Ok-clause-drops g c = λ few.
    staged_drops c.args.store.now c.requires.may.standing (g.D.Disk.state c.args.disk.now) c.requires.may.over c.args.at
    c.requires.once _ _ c.stage.new.self c.stage.ensures.next few

pub returns-in-Err-clause-drops : goal.returns-in-Err-clause-drops
returns-in-Err-clause-drops g c = λ few.
    staged_drops c.args.store.now c.requires.may.standing (g.D.Disk.state c.args.disk.now) c.requires.may.over c.args.at
    c.requires.once _ _ c.stage.new.self c.stage.ensures.next few

pub returns-in-Ok-clause-any_moment : goal.returns-in-Ok-clause-any_moment
returns-in-Ok-clause-any_moment g c = λ standing over.
    let stages = subst (λ (s : BookStore). StagesRow {T = Unit} {E = StoreFault} s standing (g.D.Disk.state c.args.disk.now)
    (g.D.Disk.state c.stage.new.disk) (Ok tt)) c.stage.ensures.next (c.in-Ok.ensures.stages standing over) in
    stages.any_moment

pub returns-in-Err-clause-any_moment : goal.returns-in-Err-clause-any_moment
returns-in-Err-clause-any_moment g c = λ standing over.
    let stages = subst (λ (s : BookStore). StagesRow {T = Unit} {E = StoreFault} s standing (g.D.Disk.state c.args.disk.now)
    (g.D.Disk.state c.stage.new.disk) (Err c.in-Err.fault)) c.stage.ensures.next (c.in-Err.ensures.stages standing over) in
    stages.any_moment
