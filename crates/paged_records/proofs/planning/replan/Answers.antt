use Rattle.std.proofs.Common.{◌≡◌, ℕ, ◌*◌, ◌-◌, [], List, length, take, drop, replicate, subst, ap, ◌∙◌, arith}
use Rattle.std.proofs.lemmas.List.{length-take-le}
use Rattle.dr_base.specs.declared.limits.TheConstants.{PAGE}
use Rattle.record_pages.specs.Pages.{page_count}
use Rattle.record_pages.specs.Tables.{entry_fault}
use Rattle.record_pages.proofs.Filled.{count_least}
use Rattle.paged_records.specs.Bounded.{free_in}
use Rattle.paged_records.proofs.Replanned.{count_is, dropped_are, dropped_lawful, filled_is, given_room, kept_is, named_lawful, numbers_are, places_are}
use Rattle.paged_records.proofs.Paging.{covered, fewest}
use Rattle.paged_records.proofs.Texts.{held_fits, held_inside}
use Rattle.paged_records.proofs.planning.replan.Goals as goal

pub plan_pages-requires-clause-enough : goal.plan_pages-requires-clause-enough
plan_pages-requires-clause-enough c =
    let kept = c.args.kept.now in
    let text : List ℕ = take c.args.len c.args.text.now.items in
    let fits = held_fits c.args.bounds c.args.text.now c.args.len c.requires.text in
    let free : c.deref-4.result.now ≡ free_in c.args.bounds kept.numbers.items =
    c.deref-4.ensures.value ∙ filled_is c.args.bounds kept.numbers.items c.deref.result.now c.fill_free.new.free.items c.number_end-end.result
    c.least_number-least.result c.deref.ensures.value c.number_end-end.ensures.end c.least_number-least.ensures.least c.fill_free.ensures.free in
    let said : take c.args.len c.deref-3.result.now ≡ text = ap (λ (l : List ℕ). take c.args.len l) c.deref-3.ensures.value in
    let is_kept = kept_is c.args.bounds kept c.requires.few c.requires.entries in
    given_room c.args.bounds c.number_end-end.ensures.lawful kept.len kept.bytes.items kept.numbers.items
    is_kept text fits c.deref-2.result.now c.deref-4.result.now (take c.args.len c.deref-3.result.now) c.deref-2.ensures.value free said

pub overflow_mul-size : goal.overflow_mul-size
overflow_mul-size c =
    let kept = c.args.kept.now in
    let text : List ℕ = take c.args.len c.args.text.now.items in
    let fits = held_fits c.args.bounds c.args.text.now c.args.len c.requires.text in
    let free : c.deref-4.result.now ≡ free_in c.args.bounds kept.numbers.items =
    c.deref-4.ensures.value ∙ filled_is c.args.bounds kept.numbers.items c.deref.result.now c.fill_free.new.free.items c.number_end-end.result
    c.least_number-least.result c.deref.ensures.value c.number_end-end.ensures.end c.least_number-least.ensures.least c.fill_free.ensures.free in
    let said : take c.args.len c.deref-3.result.now ≡ text = ap (λ (l : List ℕ). take c.args.len l) c.deref-3.ensures.value in
    let is_kept = kept_is c.args.bounds kept c.requires.few c.requires.entries in
    let count : length c.plan_pages.new.numbers.items ≡ page_count c.args.len =
    count_is c.args.bounds c.number_end-end.ensures.lawful kept.len kept.bytes.items kept.numbers.items
    is_kept text fits c.deref-2.result.now c.deref-4.result.now (take c.args.len c.deref-3.result.now) c.deref-2.ensures.value free said
    c.plan_pages.new.numbers.items c.plan_pages.ensures.numbers
    ∙ ap page_count (length-take-le c.args.len c.args.text.now.items (held_inside c.args.bounds c.args.text.now c.args.len c.requires.text)) in
    let ends : c.len-size.result ≡ length c.plan_pages.new.numbers.items = omega (arith, c.len-size.ensures, c.plan_pages.new.numbers.ok.0) in
    let few = count_least c.args.len c.args.bounds.most c.requires.text.few in
    omega (arith, count, ends, few, c.number_end-end.ensures.lawful.named)

pub take_over-requires-clause-inside : goal.take_over-requires-clause-inside
take_over-requires-clause-inside c =
    let kept = c.args.kept.now in
    let text : List ℕ = take c.args.len c.args.text.now.items in
    let fits = held_fits c.args.bounds c.args.text.now c.args.len c.requires.text in
    let free : c.deref-4.result.now ≡ free_in c.args.bounds kept.numbers.items =
    c.deref-4.ensures.value ∙ filled_is c.args.bounds kept.numbers.items c.deref.result.now c.fill_free.new.free.items c.number_end-end.result
    c.least_number-least.result c.deref.ensures.value c.number_end-end.ensures.end c.least_number-least.ensures.least c.fill_free.ensures.free in
    let said : take c.args.len c.deref-3.result.now ≡ text = ap (λ (l : List ℕ). take c.args.len l) c.deref-3.ensures.value in
    let is_kept = kept_is c.args.bounds kept c.requires.few c.requires.entries in
    let count : length c.plan_pages.new.numbers.items ≡ page_count c.args.len =
    count_is c.args.bounds c.number_end-end.ensures.lawful kept.len kept.bytes.items kept.numbers.items
    is_kept text fits c.deref-2.result.now c.deref-4.result.now (take c.args.len c.deref-3.result.now) c.deref-2.ensures.value free said
    c.plan_pages.new.numbers.items c.plan_pages.ensures.numbers
    ∙ ap page_count (length-take-le c.args.len c.args.text.now.items (held_inside c.args.bounds c.args.text.now c.args.len c.requires.text)) in
    let ends : c.len-size.result ≡ length c.plan_pages.new.numbers.items = omega (arith, c.len-size.ensures, c.plan_pages.new.numbers.ok.0) in
    omega (arith, ends, covered (length c.plan_pages.new.numbers.items) c.args.len count)

pub take_over-requires-clause-room : goal.take_over-requires-clause-room
take_over-requires-clause-room c =
    let kept = c.args.kept.now in
    let text : List ℕ = take c.args.len c.args.text.now.items in
    let fits = held_fits c.args.bounds c.args.text.now c.args.len c.requires.text in
    let free : c.deref-4.result.now ≡ free_in c.args.bounds kept.numbers.items =
    c.deref-4.ensures.value ∙ filled_is c.args.bounds kept.numbers.items c.deref.result.now c.fill_free.new.free.items c.number_end-end.result
    c.least_number-least.result c.deref.ensures.value c.number_end-end.ensures.end c.least_number-least.ensures.least c.fill_free.ensures.free in
    let said : take c.args.len c.deref-3.result.now ≡ text = ap (λ (l : List ℕ). take c.args.len l) c.deref-3.ensures.value in
    let is_kept = kept_is c.args.bounds kept c.requires.few c.requires.entries in
    let count : length c.plan_pages.new.numbers.items ≡ page_count c.args.len =
    count_is c.args.bounds c.number_end-end.ensures.lawful kept.len kept.bytes.items kept.numbers.items
    is_kept text fits c.deref-2.result.now c.deref-4.result.now (take c.args.len c.deref-3.result.now) c.deref-2.ensures.value free said
    c.plan_pages.new.numbers.items c.plan_pages.ensures.numbers
    ∙ ap page_count (length-take-le c.args.len c.args.text.now.items (held_inside c.args.bounds c.args.text.now c.args.len c.requires.text)) in
    let ends : c.len-size.result ≡ length c.plan_pages.new.numbers.items = omega (arith, c.len-size.ensures, c.plan_pages.new.numbers.ok.0) in
    omega (arith, count, ends, c.requires.text.room)

pub invariant_of-kept-clause-fits : goal.invariant_of-kept-clause-fits
invariant_of-kept-clause-fits c =
    let kept = c.args.kept.now in
    let text : List ℕ = take c.args.len c.args.text.now.items in
    let fits = held_fits c.args.bounds c.args.text.now c.args.len c.requires.text in
    let free : c.deref-4.result.now ≡ free_in c.args.bounds kept.numbers.items =
    c.deref-4.ensures.value ∙ filled_is c.args.bounds kept.numbers.items c.deref.result.now c.fill_free.new.free.items c.number_end-end.result
    c.least_number-least.result c.deref.ensures.value c.number_end-end.ensures.end c.least_number-least.ensures.least c.fill_free.ensures.free in
    let said : take c.args.len c.deref-3.result.now ≡ text = ap (λ (l : List ℕ). take c.args.len l) c.deref-3.ensures.value in
    let is_kept = kept_is c.args.bounds kept c.requires.few c.requires.entries in
    let count : length c.plan_pages.new.numbers.items ≡ page_count c.args.len =
    count_is c.args.bounds c.number_end-end.ensures.lawful kept.len kept.bytes.items kept.numbers.items
    is_kept text fits c.deref-2.result.now c.deref-4.result.now (take c.args.len c.deref-3.result.now) c.deref-2.ensures.value free said
    c.plan_pages.new.numbers.items c.plan_pages.ensures.numbers
    ∙ ap page_count (length-take-le c.args.len c.args.text.now.items (held_inside c.args.bounds c.args.text.now c.args.len c.requires.text)) in
    omega (arith, count, c.requires.text.room, c.take_over.ensures.long)

pub invariant_of-kept-clause-blank : goal.invariant_of-kept-clause-blank
invariant_of-kept-clause-blank c =
    let ends : c.len-size.result ≡ length c.plan_pages.new.numbers.items = omega (arith, c.len-size.ensures, c.plan_pages.new.numbers.ok.0) in
    subst (λ n. drop c.args.len (take (PAGE * n) c.take_over.new.bytes.items) ≡ replicate (PAGE * n - c.args.len) 0) ends
    c.take_over.ensures.blank

pub invariant_of-kept-clause-covers : goal.invariant_of-kept-clause-covers
invariant_of-kept-clause-covers c =
    let kept = c.args.kept.now in
    let text : List ℕ = take c.args.len c.args.text.now.items in
    let fits = held_fits c.args.bounds c.args.text.now c.args.len c.requires.text in
    let free : c.deref-4.result.now ≡ free_in c.args.bounds kept.numbers.items =
    c.deref-4.ensures.value ∙ filled_is c.args.bounds kept.numbers.items c.deref.result.now c.fill_free.new.free.items c.number_end-end.result
    c.least_number-least.result c.deref.ensures.value c.number_end-end.ensures.end c.least_number-least.ensures.least c.fill_free.ensures.free in
    let said : take c.args.len c.deref-3.result.now ≡ text = ap (λ (l : List ℕ). take c.args.len l) c.deref-3.ensures.value in
    let is_kept = kept_is c.args.bounds kept c.requires.few c.requires.entries in
    let count : length c.plan_pages.new.numbers.items ≡ page_count c.args.len =
    count_is c.args.bounds c.number_end-end.ensures.lawful kept.len kept.bytes.items kept.numbers.items
    is_kept text fits c.deref-2.result.now c.deref-4.result.now (take c.args.len c.deref-3.result.now) c.deref-2.ensures.value free said
    c.plan_pages.new.numbers.items c.plan_pages.ensures.numbers
    ∙ ap page_count (length-take-le c.args.len c.args.text.now.items (held_inside c.args.bounds c.args.text.now c.args.len c.requires.text)) in
    covered (length c.plan_pages.new.numbers.items) c.args.len count

pub invariant_of-kept-clause-least : goal.invariant_of-kept-clause-least
invariant_of-kept-clause-least c =
    let kept = c.args.kept.now in
    let text : List ℕ = take c.args.len c.args.text.now.items in
    let fits = held_fits c.args.bounds c.args.text.now c.args.len c.requires.text in
    let free : c.deref-4.result.now ≡ free_in c.args.bounds kept.numbers.items =
    c.deref-4.ensures.value ∙ filled_is c.args.bounds kept.numbers.items c.deref.result.now c.fill_free.new.free.items c.number_end-end.result
    c.least_number-least.result c.deref.ensures.value c.number_end-end.ensures.end c.least_number-least.ensures.least c.fill_free.ensures.free in
    let said : take c.args.len c.deref-3.result.now ≡ text = ap (λ (l : List ℕ). take c.args.len l) c.deref-3.ensures.value in
    let is_kept = kept_is c.args.bounds kept c.requires.few c.requires.entries in
    let count : length c.plan_pages.new.numbers.items ≡ page_count c.args.len =
    count_is c.args.bounds c.number_end-end.ensures.lawful kept.len kept.bytes.items kept.numbers.items
    is_kept text fits c.deref-2.result.now c.deref-4.result.now (take c.args.len c.deref-3.result.now) c.deref-2.ensures.value free said
    c.plan_pages.new.numbers.items c.plan_pages.ensures.numbers
    ∙ ap page_count (length-take-le c.args.len c.args.text.now.items (held_inside c.args.bounds c.args.text.now c.args.len c.requires.text)) in
    fewest (length c.plan_pages.new.numbers.items) c.args.len count

pub returns-clause-numbers : goal.returns-clause-numbers
returns-clause-numbers c =
    let kept = c.args.kept.now in
    let text : List ℕ = take c.args.len c.args.text.now.items in
    let fits = held_fits c.args.bounds c.args.text.now c.args.len c.requires.text in
    let free : c.deref-4.result.now ≡ free_in c.args.bounds kept.numbers.items =
    c.deref-4.ensures.value ∙ filled_is c.args.bounds kept.numbers.items c.deref.result.now c.fill_free.new.free.items c.number_end-end.result
    c.least_number-least.result c.deref.ensures.value c.number_end-end.ensures.end c.least_number-least.ensures.least c.fill_free.ensures.free in
    let said : take c.args.len c.deref-3.result.now ≡ text = ap (λ (l : List ℕ). take c.args.len l) c.deref-3.ensures.value in
    let is_kept = kept_is c.args.bounds kept c.requires.few c.requires.entries in
    c.plan_pages.ensures.numbers ∙ numbers_are c.args.bounds c.number_end-end.ensures.lawful kept.len kept.bytes.items kept.numbers.items
    is_kept text fits c.deref-2.result.now c.deref-4.result.now (take c.args.len c.deref-3.result.now) c.deref-2.ensures.value free said

pub returns-clause-entries : goal.returns-clause-entries
returns-clause-entries c =
    let kept = c.args.kept.now in
    let text : List ℕ = take c.args.len c.args.text.now.items in
    let fits = held_fits c.args.bounds c.args.text.now c.args.len c.requires.text in
    let free : c.deref-4.result.now ≡ free_in c.args.bounds kept.numbers.items =
    c.deref-4.ensures.value ∙ filled_is c.args.bounds kept.numbers.items c.deref.result.now c.fill_free.new.free.items c.number_end-end.result
    c.least_number-least.result c.deref.ensures.value c.number_end-end.ensures.end c.least_number-least.ensures.least c.fill_free.ensures.free in
    let said : take c.args.len c.deref-3.result.now ≡ text = ap (λ (l : List ℕ). take c.args.len l) c.deref-3.ensures.value in
    let is_kept = kept_is c.args.bounds kept c.requires.few c.requires.entries in
    ap (λ (l : List ℕ). entry_fault c.args.bounds.least c.args.bounds.count [] 6 l) (c.plan_pages.ensures.numbers ∙ numbers_are c.args.bounds c.number_end-end.ensures.lawful kept.len kept.bytes.items kept.numbers.items
    is_kept text fits c.deref-2.result.now c.deref-4.result.now (take c.args.len c.deref-3.result.now) c.deref-2.ensures.value free said)
    ∙ named_lawful c.args.bounds c.number_end-end.ensures.lawful kept.len kept.bytes.items kept.numbers.items
    is_kept text fits

pub returns-clause-places : goal.returns-clause-places
returns-clause-places c =
    let kept = c.args.kept.now in
    let text : List ℕ = take c.args.len c.args.text.now.items in
    let fits = held_fits c.args.bounds c.args.text.now c.args.len c.requires.text in
    let free : c.deref-4.result.now ≡ free_in c.args.bounds kept.numbers.items =
    c.deref-4.ensures.value ∙ filled_is c.args.bounds kept.numbers.items c.deref.result.now c.fill_free.new.free.items c.number_end-end.result
    c.least_number-least.result c.deref.ensures.value c.number_end-end.ensures.end c.least_number-least.ensures.least c.fill_free.ensures.free in
    let said : take c.args.len c.deref-3.result.now ≡ text = ap (λ (l : List ℕ). take c.args.len l) c.deref-3.ensures.value in
    let is_kept = kept_is c.args.bounds kept c.requires.few c.requires.entries in
    c.plan_pages.ensures.places ∙ places_are c.args.bounds c.number_end-end.ensures.lawful kept.len kept.bytes.items kept.numbers.items
    is_kept text fits c.deref-2.result.now c.deref-4.result.now (take c.args.len c.deref-3.result.now) c.deref-2.ensures.value free said

pub returns-clause-dropped : goal.returns-clause-dropped
returns-clause-dropped c =
    let kept = c.args.kept.now in
    let text : List ℕ = take c.args.len c.args.text.now.items in
    let fits = held_fits c.args.bounds c.args.text.now c.args.len c.requires.text in
    let free : c.deref-4.result.now ≡ free_in c.args.bounds kept.numbers.items =
    c.deref-4.ensures.value ∙ filled_is c.args.bounds kept.numbers.items c.deref.result.now c.fill_free.new.free.items c.number_end-end.result
    c.least_number-least.result c.deref.ensures.value c.number_end-end.ensures.end c.least_number-least.ensures.least c.fill_free.ensures.free in
    let said : take c.args.len c.deref-3.result.now ≡ text = ap (λ (l : List ℕ). take c.args.len l) c.deref-3.ensures.value in
    let is_kept = kept_is c.args.bounds kept c.requires.few c.requires.entries in
    c.plan_pages.ensures.dropped ∙ dropped_are c.args.bounds c.number_end-end.ensures.lawful kept.len kept.bytes.items kept.numbers.items
    is_kept text fits c.deref-2.result.now c.deref-4.result.now (take c.args.len c.deref-3.result.now) c.deref-2.ensures.value free said

pub returns-clause-drops : goal.returns-clause-drops
returns-clause-drops c =
    let kept = c.args.kept.now in
    let text : List ℕ = take c.args.len c.args.text.now.items in
    let fits = held_fits c.args.bounds c.args.text.now c.args.len c.requires.text in
    let free : c.deref-4.result.now ≡ free_in c.args.bounds kept.numbers.items =
    c.deref-4.ensures.value ∙ filled_is c.args.bounds kept.numbers.items c.deref.result.now c.fill_free.new.free.items c.number_end-end.result
    c.least_number-least.result c.deref.ensures.value c.number_end-end.ensures.end c.least_number-least.ensures.least c.fill_free.ensures.free in
    let said : take c.args.len c.deref-3.result.now ≡ text = ap (λ (l : List ℕ). take c.args.len l) c.deref-3.ensures.value in
    let is_kept = kept_is c.args.bounds kept c.requires.few c.requires.entries in
    ap (λ (l : List ℕ). entry_fault c.args.bounds.least c.args.bounds.count [] 6 l) (c.plan_pages.ensures.dropped ∙ dropped_are c.args.bounds c.number_end-end.ensures.lawful kept.len kept.bytes.items kept.numbers.items
    is_kept text fits c.deref-2.result.now c.deref-4.result.now (take c.args.len c.deref-3.result.now) c.deref-2.ensures.value free said)
    ∙ dropped_lawful c.args.bounds c.number_end-end.ensures.lawful kept.len kept.bytes.items kept.numbers.items
    is_kept text fits
