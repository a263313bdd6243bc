use Rattle.std.proofs.Common.{take, subst, ◌∙◌}
use Rattle.std.specs.Prelude.{OnOk}
use Rattle.pages.specs.Runs.{Makes, only}
use Rattle.pages.specs.Writing.{Stages}
use Rattle.dr_disk.specs.declared.call.Call.TheVariants.{Write}
use Rattle.record_pages.specs.Pages.{pages_in}
use Rattle.paged_records.proofs.Texts.{held_fits}
use Rattle.dr_disk.specs.State.{OnSeen}
use Rattle.book_store.specs.Desk.{IsWithBody, KeepsOthers}
use Rattle.book_store.specs.Kept.{row_bounds}
use Rattle.book_store.specs.Layout.{book_layout}
use Rattle.book_store.specs.Rows.{book_names, row_in, row_names, row_text, with_row_in}
use Rattle.book_store.proofs.RowRecords.{IsReplaced, fresh_count, plan, staged_each, staged_few, staged_small, writes}
use Rattle.book_store.proofs.record.stage_record.Goals as goal

pub stage-requires-clause-few : goal.stage-requires-clause-few
stage-requires-clause-few g c =
    staged_few c.plan_row.new.kept c.plan_row.ensures.replaced.record_is c.deref.result.now c.deref.ensures.value

pub stage-requires-clause-small : goal.stage-requires-clause-small
stage-requires-clause-small g c =
    staged_small c.plan_row.new.kept c.plan_row.ensures.replaced.record_is c.deref.result.now c.deref.ensures.value

pub stage-requires-clause-each : goal.stage-requires-clause-each
stage-requires-clause-each g c =
    staged_each c.plan_row.new.kept c.plan_row.ensures.replaced.record_is c.deref.result.now c.deref.ensures.value
    c.args.len c.plan_row.ensures.len

pub stage-requires-clause-writes : goal.stage-requires-clause-writes
stage-requires-clause-writes g c =
    let has : IsReplaced c.args.row c.args.kept.now c.plan_row.new.kept (take c.args.len c.args.text.now.items)
    c.deref.result.now c.deref-2.result.now c.deref-3.result.now c.deref-4.result.now = record {
      was = c.requires.record;
      fits = held_fits row_bounds c.args.text.now c.args.len c.requires.text;
      is = c.plan_row.ensures.replaced.record_is;
      text_is = c.plan_row.ensures.replaced.text_is;
      named = c.plan_row.ensures.replaced.numbers;
      numbers_are = c.deref.ensures.value;
      fresh_are = c.deref-2.ensures.value ∙ c.plan_row.ensures.fresh;
      places_are = c.deref-3.ensures.value ∙ c.plan_row.ensures.places;
      bytes_are = c.deref-4.ensures.value;
    } in
    writes has c.args.desk.now.rows (g.D.Disk.state c.args.disk.now) c.requires.row c.requires.sound c.requires.free

pub returns-clause-staged : goal.returns-clause-staged
returns-clause-staged g c = λ was held before beside names holds.
    let has : IsReplaced c.args.row c.args.kept.now c.plan_row.new.kept (take c.args.len c.args.text.now.items)
    c.deref.result.now c.deref-2.result.now c.deref-3.result.now c.deref-4.result.now = record {
      was = c.requires.record;
      fits = held_fits row_bounds c.args.text.now c.args.len c.requires.text;
      is = c.plan_row.ensures.replaced.record_is;
      text_is = c.plan_row.ensures.replaced.text_is;
      named = c.plan_row.ensures.replaced.numbers;
      numbers_are = c.deref.ensures.value;
      fresh_are = c.deref-2.ensures.value ∙ c.plan_row.ensures.fresh;
      places_are = c.deref-3.ensures.value ∙ c.plan_row.ensures.places;
      bytes_are = c.deref-4.ensures.value;
    } in
    c.stage.ensures.staged was held (pages_in (take c.args.len c.args.text.now.items)) before
    (plan has c.args.desk.now.rows (row_names (row_in c.args.desk.now.body.items c.args.row)) was (held c.args.row)
    c.requires.row beside names holds)

pub returns-clause-stages : goal.returns-clause-stages
returns-clause-stages g c =
    subst (λ l. Stages book_names (book_layout c.args.desk.now.rows) l (g.D.Disk.state c.args.disk.now)
    (g.D.Disk.state c.stage.new.disk)) (c.deref-2.ensures.value ∙ c.plan_row.ensures.fresh) c.stage.ensures.stages

pub returns-clause-makes : goal.returns-clause-makes
returns-clause-makes g c =
    let has : IsReplaced c.args.row c.args.kept.now c.plan_row.new.kept (take c.args.len c.args.text.now.items)
    c.deref.result.now c.deref-2.result.now c.deref-3.result.now c.deref-4.result.now = record {
      was = c.requires.record;
      fits = held_fits row_bounds c.args.text.now c.args.len c.requires.text;
      is = c.plan_row.ensures.replaced.record_is;
      text_is = c.plan_row.ensures.replaced.text_is;
      named = c.plan_row.ensures.replaced.numbers;
      numbers_are = c.deref.ensures.value;
      fresh_are = c.deref-2.ensures.value ∙ c.plan_row.ensures.fresh;
      places_are = c.deref-3.ensures.value ∙ c.plan_row.ensures.places;
      bytes_are = c.deref-4.ensures.value;
    } in
    subst (λ n. Makes n (only Write) (g.D.Disk.state c.args.disk.now) (g.D.Disk.state c.stage.new.disk) c.stage.result)
    (fresh_count has) c.stage.ensures.makes

pub returns-clause-rest : goal.returns-clause-rest
returns-clause-rest g c =
    subst (λ l. OnOk c.stage.result (OnSeen (KeepsOthers c.args.desk.now.rows l (g.D.Disk.state c.args.disk.now))
    (g.D.Disk.state c.stage.new.disk))) (c.deref-2.ensures.value ∙ c.plan_row.ensures.fresh) c.stage.ensures.rest

pub returns-clause-next : goal.returns-clause-next
returns-clause-next g c =
    subst (λ l. IsWithBody c.args.desk.now c.stage.new.self
    (with_row_in c.args.desk.now.body.items c.args.row (row_text c.args.name.now c.args.len l)))
    c.deref.ensures.value c.stage.ensures.next

pub returns-clause-replaced : goal.returns-clause-replaced
returns-clause-replaced g c = c.plan_row.ensures.replaced

pub returns-clause-rooms : goal.returns-clause-rooms
returns-clause-rooms g c = c.plan_row.ensures.rooms

pub returns-clause-room : goal.returns-clause-room
returns-clause-room g c = c.plan_row.ensures.room
