use Rattle.std.proofs.Common.{◌≡◌, ◌≤◌, ◌*◌, [], None, refl, subst, ap, ◌∙◌, take, vec_capacity, arith}
use Rattle.dr_base.specs.declared.limits.TheConstants.{PAGE}
use Rattle.record_pages.specs.Pages.{pages_in}
use Rattle.record_pages.specs.Plans.{numbered}
use Rattle.record_pages.specs.Tables.{entry_fault}
use Rattle.paged_records.specs.Bounded.{Bounds, HasRecordMemory, free_in}
use Rattle.paged_records.specs.Memory.{HasPlanRoom}
use Rattle.paged_records.proofs.Texts.{held_fits}
use Rattle.book_store.specs.Kept.{row_bounds, text_of}
use Rattle.book_store.proofs.Planning.{free_is, fresh_is, taken_few, taken_long, taken_small}
use Rattle.book_store.proofs.record.plan_row.Goals as goal

pub slice_bounds-shift-end : goal.slice_bounds-shift-end
slice_bounds-shift-end c =
    taken_long c.args.row c.args.kept.now c.requires.record (take c.args.len c.args.text.now.items)
    (held_fits row_bounds c.args.text.now c.args.len c.requires.text) c.deref.result.now
    c.replan.new.draft.plan.places.items c.len-count.result
    (c.deref.ensures.value
    ∙ free_is c.row_bounds.result c.args.kept.now.numbers.items c.replan.new.draft.free.items
    c.row_bounds.ensures c.replan.ensures.free)
    c.replan.ensures.places (omega (arith, c.len-count.ensures, c.replan.new.draft.plan.places.ok.0))

pub shift-requires-clause-own : goal.shift-requires-clause-own
shift-requires-clause-own c =
    taken_small c.args.row c.args.kept.now c.requires.record (take c.args.len c.args.text.now.items)
    (held_fits row_bounds c.args.text.now c.args.len c.requires.text) c.deref.result.now
    c.replan.new.draft.plan.places.items c.len-count.result
    (c.deref.ensures.value
    ∙ free_is c.row_bounds.result c.args.kept.now.numbers.items c.replan.new.draft.free.items
    c.row_bounds.ensures c.replan.ensures.free)
    c.replan.ensures.places (omega (arith, c.len-count.ensures, c.replan.new.draft.plan.places.ok.0))

pub shift-requires-clause-room : goal.shift-requires-clause-room
shift-requires-clause-room c =
    let few = taken_few c.args.row c.args.kept.now c.requires.record (take c.args.len c.args.text.now.items)
    (held_fits row_bounds c.args.text.now c.args.len c.requires.text) c.deref.result.now
    c.replan.new.draft.plan.places.items c.len-count.result
    (c.deref.ensures.value
    ∙ free_is c.row_bounds.result c.args.kept.now.numbers.items c.replan.new.draft.free.items
    c.row_bounds.ensures c.replan.ensures.free)
    c.replan.ensures.places (omega (arith, c.len-count.ensures, c.replan.new.draft.plan.places.ok.0)) in
    omega (arith, few, c.requires.rooms.1)

pub returns-clause-len : goal.returns-clause-len
returns-clause-len c = c.replan.ensures.len

pub returns-clause-replaced : goal.returns-clause-replaced
returns-clause-replaced c = record {
  record_is = record {
    few = subst (λ (b : Bounds). c.replan.new.kept.len ≤ PAGE * b.most) c.row_bounds.ensures c.replan.ensures.few;
    long = subst (λ (b : Bounds). HasRecordMemory b c.replan.new.kept.bytes) c.row_bounds.ensures c.replan.ensures.long;
    entries = subst (λ (b : Bounds). entry_fault b.least b.count [] 6 c.replan.new.kept.numbers.items ≡ None)
        c.row_bounds.ensures c.replan.ensures.entries;
    numbers = subst (λ (b : Bounds). b.most ≤ vec_capacity c.replan.new.kept.numbers) c.row_bounds.ensures
        c.replan.ensures.number_room;
  };
  text_is = c.replan.ensures.text;
  numbers = c.replan.ensures.numbers
      ∙ ap (numbered (pages_in (text_of c.args.kept.now)) c.args.kept.now.numbers.items
      (pages_in (take c.args.len c.args.text.now.items)))
      (free_is c.row_bounds.result c.args.kept.now.numbers.items
      (free_in c.row_bounds.result c.args.kept.now.numbers.items) c.row_bounds.ensures refl);
  gone_is = c.replan.ensures.dropped;
}

pub returns-clause-room : goal.returns-clause-room
returns-clause-room c =
    subst (λ (b : Bounds). HasRecordMemory b c.replan.new.text) c.row_bounds.ensures c.replan.ensures.given

pub returns-clause-places : goal.returns-clause-places
returns-clause-places c = c.replan.ensures.places

pub returns-clause-fresh : goal.returns-clause-fresh
returns-clause-fresh c =
    fresh_is c.args.row c.args.kept.now c.requires.record (take c.args.len c.args.text.now.items)
    (held_fits row_bounds c.args.text.now c.args.len c.requires.text) c.deref.result.now
    c.replan.new.draft.plan.places.items c.len-count.result
    (c.deref.ensures.value
    ∙ free_is c.row_bounds.result c.args.kept.now.numbers.items c.replan.new.draft.free.items
    c.row_bounds.ensures c.replan.ensures.free)
    c.replan.ensures.places (omega (arith, c.len-count.ensures, c.replan.new.draft.plan.places.ok.0))
    c.shift.new.out.items c.shift.ensures.shifted

pub returns-clause-rooms : goal.returns-clause-rooms
returns-clause-rooms c = (
  subst (λ (b : Bounds). HasPlanRoom b c.replan.new.draft) c.row_bounds.ensures c.replan.ensures.room,
  omega (arith, c.shift.ensures.room, c.requires.rooms.1),
)
