use Rattle.std.proofs.Common.{inl, arith, None, Some, ap, refl, subst, sym, ◌∙◌}
use Rattle.std.proofs.lemmas.Grind.{common_steps}
use Rattle.dr_disk.specs.Spans.{Span}
use Rattle.dr_disk.proofs.Steps.{quiet_twice, widen}
use Rattle.dr_model.specs.Conversations.Formats.{formats_of}
use Rattle.session_model.specs.Clients.{Client}
use Rattle.session_record.specs.Record.{record_text}
use Rattle.slot_store.specs.Found.{found_as, has_content}
use Rattle.slot_store.specs.Reading.{IsEntryOrLike, no_content}
use Rattle.slot_store.specs.Store.{IsOldOrNew, content}
use Rattle.client.specs.Beginning.{IsEntryOrFirst, IsUnbegun, begin_of, begun_client}
use Rattle.client.specs.Clients.{client_area}
use Rattle.client.specs.Opening.{IsReadAs}
use Rattle.client.proofs.Beginnings.{first_left, first_moments, held, kept_first, none_by, rests_as_read, unbegun}
use Rattle.client.proofs.client.Client.begin.Goals as goal

pub returns-in-Err-clause-unbegun : goal.returns-in-Err-clause-unbegun
returns-in-Err-clause-unbegun g c =
    let k = g.K.Kem.mechanism in
    let begin = begin_of c.args.side c.args.format c.args.key.now in
    subst (IsUnbegun g.D.Disk.state k begin c.args.disk.now c.open.new.disk) (sym c.refusal.ensures)
    (unbegun g.D.Disk.state k begin c.args.disk.now c.open.new.disk c.in-Err.error c.in-Err.ensures.refused.damaged
    c.in-Err.ensures.memory c.in-Err.ensures.refused.fault)

pub returns-in-Err-clause-any_moment : goal.returns-in-Err-clause-any_moment
returns-in-Err-clause-any_moment g c =
    let start = g.D.Disk.state c.args.disk.now in
    widen start (g.D.Disk.state c.open.new.disk) (IsEntryOrLike client_area start)
    (IsEntryOrFirst g.K.Kem.mechanism (begin_of c.args.side c.args.format c.args.key.now) start) (λ f left. inl left)
    c.open.ensures.any_moment

pub returns-in-Content-clause-unbegun : goal.returns-in-Content-clause-unbegun
returns-in-Content-clause-unbegun g c =
    let some = held (content c.in-Ok-open.store) (c.in-Ok-open.ensures.opened.found ∙ ap has_content c.in-Content.is) in (
      λ s told. (
        some.0,
        c.in-Ok-open.ensures.opened.read s told
            ∙ ap (λ f. found_as f (content c.in-Ok-open.store)) c.in-Content.is ∙ some.1,
      ),
      c.in-Ok-open.ensures.quiet,
      rests_as_read g.K.Kem.mechanism c.readings.ensures c.in-Ok-open.found c.in-Ok-open.store
          (g.D.Disk.state c.args.disk.now) (g.D.Disk.state c.open.new.disk) c.in-Content.is
          (c.in-Ok-open.ensures.opened.found ∙ ap has_content c.in-Content.is)
          c.in-Ok-open.ensures.opened.area c.in-Ok-open.ensures.opened.read c.in-Ok-open.ensures.opened.at_rest,
    )

pub returns-in-Err-begin-clause-unbegun : goal.returns-in-Err-begin-clause-unbegun
returns-in-Err-begin-clause-unbegun g c = (
  λ s told. c.in-Ok-open.ensures.opened.read s told ∙ ap (λ f. found_as f (content c.in-Ok-open.store)) c.in-NoContent.is,
  none_by _ _ c.in-Err-begin.ensures.variant.1 refl,
  c.in-Ok-open.ensures.quiet,
)

pub returns-in-Err-first-clause-any_moment : goal.returns-in-Err-first-clause-any_moment
returns-in-Err-first-clause-any_moment g c =
    let k = g.K.Kem.mechanism in
    let begin = begin_of c.args.side c.args.format c.args.key.now in
    let begun = begun_client k begin in
    let start = g.D.Disk.state c.args.disk.now in
    let mid = g.D.Disk.state c.open.new.disk in
    let now = g.D.Disk.state c.first.new.disk in
    let none : IsReadAs k start no_content =
    λ s told. c.in-Ok-open.ensures.opened.read s told ∙ ap (λ f. found_as f (content c.in-Ok-open.store)) c.in-NoContent.is in
    let putting : Span mid now (IsOldOrNew mid client_area None (Some (record_text begun))) =
    subst (λ (kept : Client). Span mid now (IsOldOrNew mid client_area None (Some (record_text kept))))
    c.in-Ok-begin.ensures.ok c.first.ensures.any_moment in
    first_moments k c.readings.ensures begin start mid now (g.met.D.Disk.lawful c.args.disk.now) none
    (c.in-Ok-begin.ensures.variant.0 refl)
    (λ f left. (c.in-Ok-open.ensures.opened.at_rest f left).1) c.open.ensures.any_moment putting

pub returns-in-Err-first-clause-reads : goal.returns-in-Err-first-clause-reads
returns-in-Err-first-clause-reads g c = λ s seen.
    let k = g.K.Kem.mechanism in
    let begin = begin_of c.args.side c.args.format c.args.key.now in
    let begun = begun_client k begin in
    let start = g.D.Disk.state c.args.disk.now in
    let mid = g.D.Disk.state c.open.new.disk in
    let now = g.D.Disk.state c.first.new.disk in
    let none : IsReadAs k start no_content =
    λ s told. c.in-Ok-open.ensures.opened.read s told ∙ ap (λ f. found_as f (content c.in-Ok-open.store)) c.in-NoContent.is in
    let putting : Span mid now (IsOldOrNew mid client_area None (Some (record_text begun))) =
    subst (λ (kept : Client). Span mid now (IsOldOrNew mid client_area None (Some (record_text kept))))
    c.in-Ok-begin.ensures.ok c.first.ensures.any_moment in
    first_left k c.readings.ensures begin start mid now (g.met.D.Disk.lawful c.args.disk.now) none
    (c.in-Ok-begin.ensures.variant.0 refl)
    (λ f left. (c.in-Ok-open.ensures.opened.at_rest f left).1) c.open.ensures.any_moment putting
    s ((g.met.D.Disk.lawful c.first.new.disk).seen_now s seen)

pub returns-in-Ok-first-clause-any_moment : goal.returns-in-Ok-first-clause-any_moment
returns-in-Ok-first-clause-any_moment g c =
    let k = g.K.Kem.mechanism in
    let begin = begin_of c.args.side c.args.format c.args.key.now in
    let begun = begun_client k begin in
    let start = g.D.Disk.state c.args.disk.now in
    let mid = g.D.Disk.state c.open.new.disk in
    let now = g.D.Disk.state c.first.new.disk in
    let none : IsReadAs k start no_content =
    λ s told. c.in-Ok-open.ensures.opened.read s told ∙ ap (λ f. found_as f (content c.in-Ok-open.store)) c.in-NoContent.is in
    let putting : Span mid now (IsOldOrNew mid client_area None (Some (record_text begun))) =
    subst (λ (kept : Client). Span mid now (IsOldOrNew mid client_area None (Some (record_text kept))))
    c.in-Ok-begin.ensures.ok c.first.ensures.any_moment in
    first_moments k c.readings.ensures begin start mid now (g.met.D.Disk.lawful c.args.disk.now) none
    (c.in-Ok-begin.ensures.variant.0 refl)
    (λ f left. (c.in-Ok-open.ensures.opened.at_rest f left).1) c.open.ensures.any_moment putting

pub returns-in-Ok-first-clause-reads : goal.returns-in-Ok-first-clause-reads
returns-in-Ok-first-clause-reads g c = λ s seen.
    let k = g.K.Kem.mechanism in
    let begin = begin_of c.args.side c.args.format c.args.key.now in
    let begun = begun_client k begin in
    let start = g.D.Disk.state c.args.disk.now in
    let mid = g.D.Disk.state c.open.new.disk in
    let now = g.D.Disk.state c.first.new.disk in
    let none : IsReadAs k start no_content =
    λ s told. c.in-Ok-open.ensures.opened.read s told ∙ ap (λ f. found_as f (content c.in-Ok-open.store)) c.in-NoContent.is in
    let putting : Span mid now (IsOldOrNew mid client_area None (Some (record_text begun))) =
    subst (λ (kept : Client). Span mid now (IsOldOrNew mid client_area None (Some (record_text kept))))
    c.in-Ok-begin.ensures.ok c.first.ensures.any_moment in
    first_left k c.readings.ensures begin start mid now (g.met.D.Disk.lawful c.args.disk.now) none
    (c.in-Ok-begin.ensures.variant.0 refl)
    (λ f left. (c.in-Ok-open.ensures.opened.at_rest f left).1) c.open.ensures.any_moment putting
    s ((g.met.D.Disk.lawful c.first.new.disk).seen_now s seen)

pub returns-in-Ok-first-clause-in_worlds : goal.returns-in-Ok-first-clause-in_worlds
returns-in-Ok-first-clause-in_worlds g c = λ other.
    let k = g.K.Kem.mechanism in
    let key = c.args.key.now.bytes in
    record {
      lawful = (c.both_sides_follow.ensures k c.laws.ensures.law).lawful_opening key (formats_of c.args.side c.args.format other) (c.in-Ok-begin.ensures.variant.0 refl);
      keeps =
          c.in-Ok-first.ensures.keeps ∙ c.in-Ok-begin.ensures.ok
          ∙ kept_first k (begin_of c.args.side c.args.format c.args.key.now) other;
    }

pub returns-in_default-clause-any_moment : goal.returns-in_default-clause-any_moment
returns-in_default-clause-any_moment g c = grind (arith, common_steps)

pub first-requires-clause-none : goal.first-requires-clause-none
first-requires-clause-none g c = grind (arith, common_steps)

pub returns-in-Content-clause-reads : goal.returns-in-Content-clause-reads
returns-in-Content-clause-reads g c = λ s told. inl (c.open.ensures.reads s told)

pub returns-in-Err-first-clause-fate : goal.returns-in-Err-first-clause-fate
returns-in-Err-first-clause-fate g c = grind (arith, common_steps)

pub returns-in-Ok-first-clause-begun : goal.returns-in-Ok-first-clause-begun
returns-in-Ok-first-clause-begun g c = record {
  is_open = c.in-Ok-first.ensures.open;
  keeps = c.in-Ok-first.ensures.keeps ∙ c.in-Ok-begin.ensures.ok;
  ready = c.in-Ok-first.ensures.ready;
  read = λ s told. c.in-Ok-open.ensures.opened.read s told
      ∙ ap (λ f. found_as f (content c.in-Ok-open.store)) c.in-NoContent.is;
  pair = c.in-Ok-begin.ensures.variant.0 refl;
  quiet = quiet_twice (g.D.Disk.state c.args.disk.now) (g.D.Disk.state c.open.new.disk) (g.D.Disk.state c.first.new.disk)
      c.in-Ok-open.ensures.quiet c.in-Ok-first.ensures.quiet;
}
