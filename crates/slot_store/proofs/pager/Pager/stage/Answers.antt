use Rattle.std.proofs.Common.{◌≡◌, [], ◌+◌, ◌-◌, ◌*◌, ℕ, List, length, take, refl, sym, ap, ◌∙◌, arith}
use Rattle.std.proofs.lemmas.List.{length-take-le, with_items_is}
use Rattle.record_pages.specs.Pages.{pages_in}
use Rattle.record_pages.specs.Plans.{numbered}
use Rattle.record_pages.specs.Tables.{entry_fault, table_body}
use Rattle.paged_records.specs.Bounded.{Bounds, free_in}
use Rattle.dr_base.specs.declared.limits.TheConstants.{PAGE}
use Rattle.slot_store.proofs.Puts.Contents.{body_is, is_staged, small_numbers}
use Rattle.paged_records.proofs.Texts.{held_inside}
use Rattle.slot_store.specs.Areas.{bounds_of}
use Rattle.slot_store.proofs.pager.Pager.stage.Goals as goal

pub lay_out_table-requires-clause-small : goal.lay_out_table-requires-clause-small
lay_out_table-requires-clause-small c =
    small_numbers c.args.self.now.area c.replan.new.kept.numbers.items c.deref.result.now c.args.self.now.lawful c.deref.ensures.value
    (ap (λ (b : Bounds). entry_fault b.least b.count [] 6 c.replan.new.kept.numbers.items) (sym c.bounds.ensures.bounds)
    ∙ c.replan.ensures.entries)

pub returns-clause-staged : goal.returns-clause-staged
returns-clause-staged c =
    let long : length c.deref_mut.result.now + 1 ≡ PAGE =
    omega (arith, ap (λ (l : List ℕ). length l) c.deref_mut.ensures.value, c.replan.ensures.room.body) in
    is_staged c.args.self.now _ (take c.args.len c.args.text.now.items) refl refl c.next_turn-turn.ensures.next c.next_turn-turn.ensures.low refl c.replan.ensures.text
    (c.replan.ensures.numbers
    ∙ ap (λ (b : Bounds). numbered (pages_in (take c.args.self.now.kept.len c.args.self.now.kept.bytes.items))
    c.args.self.now.kept.numbers.items (pages_in (take c.args.len c.args.text.now.items))
    (free_in b c.args.self.now.kept.numbers.items)) c.bounds.ensures.bounds)
    (c.replan.ensures.free ∙ ap (λ (b : Bounds). free_in b c.args.self.now.kept.numbers.items) c.bounds.ensures.bounds)
    c.replan.ensures.places c.replan.ensures.dropped
    (with_items_is c.replan.new.draft.body c.lay_out_table.new.body (c.lay_out_table.auto.body ∙ c.deref_mut.ensures.len)
    ∙ c.lay_out_table.ensures
    ∙ body_is c.next_turn-turn.result (c.args.len) (length c.deref_mut.result.now) c.replan.new.kept.numbers.items c.deref.result.now c.deref.ensures.value long
    ∙ ap (λ n. table_body c.next_turn-turn.result n c.replan.new.kept.numbers.items
    (PAGE - (6 + 2 * length c.replan.new.kept.numbers.items)))
    (sym (length-take-le c.args.len c.args.text.now.items (held_inside (bounds_of c.args.self.now.area) c.args.text.now c.args.len c.requires))))
