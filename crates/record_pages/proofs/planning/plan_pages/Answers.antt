use Rattle.std.proofs.Common.{◌≡◌, ℕ, ◌+◌, ◌-◌, ◌≤◌, List, [], ◌∷◌, ◌++◌, length, take, drop, ap, sym, subst, ◌∙◌, arith, append-nil, length-drop, vec_capacity}
use Rattle.std.specs.Prelude.{is_ok, slice_index, if◌then◌else◌}
use Rattle.std.proofs.lemmas.Grind.{common_steps}
use Rattle.std.proofs.lemmas.List.{drop_all, take_all}
use Rattle.record_pages.specs.Pages.{cut, page_count, pages_in, pages_of}
use Rattle.record_pages.specs.Plans.{changed_places, dropped, numbered}
use Rattle.record_pages.proofs.Turns.{IsSoFar, all_changed, all_dropped, all_numbered, ended, new_so, stays_so}
use Rattle.record_pages.proofs.planning.plan_pages.Goals.{then-not-stays, else-not-stays}
use Rattle.record_pages.proofs.planning.plan_pages.Goals as goal

pub pages-preserved : goal.pages-preserved
pages-preserved c = elim c.if-not-stays.branch [
  | then-not-stays w ↦
      let pushed : w.push.new.self.items ≡ c.pages.plan.places.items ++ c.pages.at ∷ [] = grind (arith, common_steps) in
      let so = new_so c.len-held.result c.page_count-count.result c.args.bytes.now c.args.text.now c.args.numbers.now.items c.args.free.now c.pages.at
      c.pages.numbers.items c.pages.plan.places.items c.pages.plan.dropped.items (omega (arith, c.len-held.ensures)) c.pages-test.true c.pages.invariant.so
      (sym c.stays.ensures ∙ w.if-not-stays.true) c.if-not-stays.numbers.items c.if-not-stays.plan.places.items c.if-not-stays.plan.dropped.items
      (ap (λ v. v.items) w.numbers-is ∙ w.renumber.ensures.numbers
      ∙ ap (λ k. take c.pages.at c.pages.numbers.items ++ slice_index c.args.free.now k ∷ drop (c.pages.at + 1) c.pages.numbers.items)
      (let e : w.len.result ≡ length c.pages.plan.places.items = omega (arith, w.len.ensures) in e)) (ap (λ p. p.places.items) w.plan-is ∙ pushed)
      (ap (λ p. p.dropped.items) w.plan-is ∙ w.renumber.ensures.dropped) in
      record {
        so = so;
        room = omega (arith, ap vec_capacity w.numbers-is, w.renumber.ensures.room, c.pages.invariant.room);
        places_room = omega (arith, ap (λ p. vec_capacity p.places) w.plan-is, w.push.ensures.capacity, c.pages.invariant.places_room);
        dropped_room = omega (arith, ap (λ p. vec_capacity p.dropped) w.plan-is, w.renumber.ensures.more, c.pages.invariant.dropped_room);
      }
  | else-not-stays w ↦
      let so = stays_so c.len-held.result c.page_count-count.result c.args.bytes.now c.args.text.now c.args.numbers.now.items c.args.free.now c.pages.at
      c.pages.numbers.items c.pages.plan.places.items c.pages.plan.dropped.items (omega (arith, c.len-held.ensures)) c.pages-test.true c.pages.invariant.so
      (sym c.stays.ensures ∙ w.if-not-stays.false) in
      record {
        so = subst (λ p. IsSoFar c.len-held.result c.page_count-count.result c.args.bytes.now c.args.text.now c.args.numbers.now.items c.args.free.now (c.pages.at + 1)
            c.if-not-stays.numbers.items p.places.items p.dropped.items) (sym w.plan-is)
            (subst (λ v. IsSoFar c.len-held.result c.page_count-count.result c.args.bytes.now c.args.text.now c.args.numbers.now.items c.args.free.now (c.pages.at + 1)
            v.items c.pages.plan.places.items c.pages.plan.dropped.items) (sym w.numbers-is) so);
        room = omega (arith, ap vec_capacity w.numbers-is, c.pages.invariant.room);
        places_room = omega (arith, ap (λ p. vec_capacity p.places) w.plan-is, c.pages.invariant.places_room);
        dropped_room = omega (arith, ap (λ p. vec_capacity p.dropped) w.plan-is, c.pages.invariant.dropped_room);
      }
]

-- ---- at the end
module _ (held count : ℕ) (bytes text nums free numbers places gone : List ℕ) (each : held ≡ length nums) (all : count ≡ page_count (length text))
    (so : IsSoFar held count bytes text nums free count numbers places gone) where
  numbers_end : take count numbers ≡ numbered (cut (length nums) bytes) nums (pages_in text) free
  numbers_end =
      all_numbered held count bytes text nums free numbers places gone (sym each) so
      ∙ ap (λ h. numbered (cut h bytes) nums (pages_of count text) free) each
      ∙ ap (λ k. numbered (cut (length nums) bytes) nums (pages_of k text) free) all

  places_end : places ≡ changed_places 0 (cut (length nums) bytes) (pages_in text)
  places_end =
      all_changed held count bytes text nums free numbers places gone (sym each) so
      ∙ ap (λ h. changed_places 0 (cut h bytes) (pages_of count text)) each
      ∙ ap (λ k. changed_places 0 (cut (length nums) bytes) (pages_of k text)) all

  dropped_end : gone ++ drop count numbers ≡ dropped (cut (length nums) bytes) nums (pages_in text)
  dropped_end =
      all_dropped held count bytes text nums free numbers places gone (sym each) so
      ∙ ap (λ h. dropped (cut h bytes) nums (pages_of count text)) each
      ∙ ap (λ k. dropped (cut (length nums) bytes) nums (pages_of k text)) all

  -- where the text has as many pages as the record, or more
  module _ (more : held ≤ count) where
    short : length numbers ≤ count
    short = omega (arith, more, each, ap (λ (l : List ℕ). length l) so.rest, length-drop count numbers, length-drop count nums)

    whole : numbers ≡ take count numbers
    whole = sym (take_all count numbers short)

    none : gone ≡ gone ++ drop count numbers
    none = sym (ap (λ (l : List ℕ). gone ++ l) (drop_all count numbers short) ∙ append-nil gone)

pub returns-then-count-held-clause-numbers : goal.returns-then-count-held-clause-numbers
returns-then-count-held-clause-numbers c =
    let all : c.pages.at ≡ c.page_count-count.result = omega (arith, c.pages-test.false, c.pages.auto.at-end) in
    let each : c.len-held.result ≡ length c.args.numbers.now.items = omega (arith, c.len-held.ensures) in
    let so = ended c.len-held.result c.page_count-count.result c.args.bytes.now c.args.text.now c.args.numbers.now.items c.args.free.now c.pages.at
    c.pages.numbers.items c.pages.plan.places.items c.pages.plan.dropped.items all c.pages.invariant.so in
    c.truncate.ensures.items ∙ numbers_end c.len-held.result c.page_count-count.result c.args.bytes.now c.args.text.now c.args.numbers.now.items c.args.free.now c.pages.numbers.items c.pages.plan.places.items c.pages.plan.dropped.items each c.page_count-count.ensures so

pub returns-then-count-held-clause-places : goal.returns-then-count-held-clause-places
returns-then-count-held-clause-places c =
    let all : c.pages.at ≡ c.page_count-count.result = omega (arith, c.pages-test.false, c.pages.auto.at-end) in
    let each : c.len-held.result ≡ length c.args.numbers.now.items = omega (arith, c.len-held.ensures) in
    let so = ended c.len-held.result c.page_count-count.result c.args.bytes.now c.args.text.now c.args.numbers.now.items c.args.free.now c.pages.at
    c.pages.numbers.items c.pages.plan.places.items c.pages.plan.dropped.items all c.pages.invariant.so in
    places_end c.len-held.result c.page_count-count.result c.args.bytes.now c.args.text.now c.args.numbers.now.items c.args.free.now c.pages.numbers.items c.pages.plan.places.items c.pages.plan.dropped.items each c.page_count-count.ensures so

pub returns-then-count-held-clause-dropped : goal.returns-then-count-held-clause-dropped
returns-then-count-held-clause-dropped c =
    let all : c.pages.at ≡ c.page_count-count.result = omega (arith, c.pages-test.false, c.pages.auto.at-end) in
    let each : c.len-held.result ≡ length c.args.numbers.now.items = omega (arith, c.len-held.ensures) in
    let so = ended c.len-held.result c.page_count-count.result c.args.bytes.now c.args.text.now c.args.numbers.now.items c.args.free.now c.pages.at
    c.pages.numbers.items c.pages.plan.places.items c.pages.plan.dropped.items all c.pages.invariant.so in
    let rest : take (length c.deref.result.now - c.page_count-count.result) (drop c.page_count-count.result c.deref.result.now) ≡ drop c.page_count-count.result c.pages.numbers.items =
    take_all (length c.deref.result.now - c.page_count-count.result) (drop c.page_count-count.result c.deref.result.now) (omega (arith, length-drop c.page_count-count.result c.deref.result.now))
    ∙ ap (λ (l : List ℕ). drop c.page_count-count.result l) c.deref.ensures.value in
    c.extend_from_slice.ensures.items
    ∙ ap (λ r. if is_ok r then c.pages.plan.dropped.items ++ take (length c.deref.result.now - c.page_count-count.result) (drop c.page_count-count.result c.deref.result.now) else c.pages.plan.dropped.items) c.unwrap-then-count-held.ensures
    ∙ ap (λ (l : List ℕ). c.pages.plan.dropped.items ++ l) rest
    ∙ dropped_end c.len-held.result c.page_count-count.result c.args.bytes.now c.args.text.now c.args.numbers.now.items c.args.free.now c.pages.numbers.items c.pages.plan.places.items c.pages.plan.dropped.items each c.page_count-count.ensures so

pub returns-else-count-held-clause-numbers : goal.returns-else-count-held-clause-numbers
returns-else-count-held-clause-numbers c =
    let all : c.pages.at ≡ c.page_count-count.result = omega (arith, c.pages-test.false, c.pages.auto.at-end) in
    let each : c.len-held.result ≡ length c.args.numbers.now.items = omega (arith, c.len-held.ensures) in
    let so = ended c.len-held.result c.page_count-count.result c.args.bytes.now c.args.text.now c.args.numbers.now.items c.args.free.now c.pages.at
    c.pages.numbers.items c.pages.plan.places.items c.pages.plan.dropped.items all c.pages.invariant.so in
    whole c.len-held.result c.page_count-count.result c.args.bytes.now c.args.text.now c.args.numbers.now.items c.args.free.now c.pages.numbers.items c.pages.plan.places.items c.pages.plan.dropped.items each c.page_count-count.ensures so (let e : c.len-held.result ≤ c.page_count-count.result = omega (arith, c.if-count-held.false) in e) ∙ numbers_end c.len-held.result c.page_count-count.result c.args.bytes.now c.args.text.now c.args.numbers.now.items c.args.free.now c.pages.numbers.items c.pages.plan.places.items c.pages.plan.dropped.items each c.page_count-count.ensures so

pub returns-else-count-held-clause-places : goal.returns-else-count-held-clause-places
returns-else-count-held-clause-places c =
    let all : c.pages.at ≡ c.page_count-count.result = omega (arith, c.pages-test.false, c.pages.auto.at-end) in
    let each : c.len-held.result ≡ length c.args.numbers.now.items = omega (arith, c.len-held.ensures) in
    let so = ended c.len-held.result c.page_count-count.result c.args.bytes.now c.args.text.now c.args.numbers.now.items c.args.free.now c.pages.at
    c.pages.numbers.items c.pages.plan.places.items c.pages.plan.dropped.items all c.pages.invariant.so in
    places_end c.len-held.result c.page_count-count.result c.args.bytes.now c.args.text.now c.args.numbers.now.items c.args.free.now c.pages.numbers.items c.pages.plan.places.items c.pages.plan.dropped.items each c.page_count-count.ensures so

pub returns-else-count-held-clause-dropped : goal.returns-else-count-held-clause-dropped
returns-else-count-held-clause-dropped c =
    let all : c.pages.at ≡ c.page_count-count.result = omega (arith, c.pages-test.false, c.pages.auto.at-end) in
    let each : c.len-held.result ≡ length c.args.numbers.now.items = omega (arith, c.len-held.ensures) in
    let so = ended c.len-held.result c.page_count-count.result c.args.bytes.now c.args.text.now c.args.numbers.now.items c.args.free.now c.pages.at
    c.pages.numbers.items c.pages.plan.places.items c.pages.plan.dropped.items all c.pages.invariant.so in
    none c.len-held.result c.page_count-count.result c.args.bytes.now c.args.text.now c.args.numbers.now.items c.args.free.now c.pages.numbers.items c.pages.plan.places.items c.pages.plan.dropped.items each c.page_count-count.ensures so (let e : c.len-held.result ≤ c.page_count-count.result = omega (arith, c.if-count-held.false) in e) ∙ dropped_end c.len-held.result c.page_count-count.result c.args.bytes.now c.args.text.now c.args.numbers.now.items c.args.free.now c.pages.numbers.items c.pages.plan.places.items c.pages.plan.dropped.items each c.page_count-count.ensures so
