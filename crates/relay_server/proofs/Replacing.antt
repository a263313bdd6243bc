-- One record of many is replaced: the other boxes stay.
use Rattle.std.proofs.Common.{◌≡◌, ◌≢◌, inl, inr, ⊎_elim, ℕ, ◌<◌, Bool, true, List, length, refl, Some, sym, ◌∙◌, ap, subst, arith}
use Rattle.std.specs.Prelude.{None, Option, Result, slice_get}
use Rattle.std.proofs.lemmas.Bool.{cases_eq}
use Rattle.std.proofs.lemmas.Option.{slice_get_within}
use Rattle.relay_server.proofs.Behind.{behind_one}
use Rattle.relay_server.proofs.OneStore.{there_is, apart, same_undamaged, OneReplaced, old_store, new_store, is_replaced, is_new, around_area, new_areas, new_rests}
use Rattle.dr_disk.specs.Called.{Called, itself}
use Rattle.dr_disk.specs.declared.call.Call.{Call}
use Rattle.slot_store.specs.Stops.{calls_of}
use Rattle.dr_disk.specs.State.{DiskState, Always}
use Rattle.dr_disk.specs.Spans.{Span}
use Rattle.dr_disk.proofs.Steps.{widen}
use Rattle.slot_store.specs.Areas.{Area}
use Rattle.slot_store.specs.Records.{stored_record}
use Rattle.slot_store.specs.Store.{IsOldOrNew, KeepsOutsideArea, SlotStore, content}
use Rattle.slot_store.specs.Laws.{DependsOnAreaAlone, IsResting, SameWithin}
use Rattle.slot_store.specs.Reading.{IsUndamaged}
use Rattle.relay_core.specs.Boxes.{Box, Answers}
use Rattle.relay_core.specs.Record.{IsRecordOf, box_text}
use Rattle.relay_core.specs.Changes.{ChangesOne, IsChange}
use Rattle.relay_server.specs.Durable.{CallsForChange, ServerNow, IsServerReady, StandsForEitherBoxes, IsReplaced}
use Rattle.relay_server.specs.Reading.{HasRecordOf, StandsForBox, StandsForBoxes}
use Rattle.relay_server.specs.Places.{area_of, IsSameBehind}

abbrev pub with_stores : List Box → List SlotStore → ServerNow
with_stores boxes stores = record { boxes = boxes; stores = stores }

-- at rest the boxes stand in each image
pub ready_stands : (server : ServerNow) (disk : DiskState) → IsServerReady server disk → IsResting → Always (StandsForBoxes server.boxes) disk
ready_stands server disk ready resting c left j box there =
    let s = there_is server.stores j (let i : j < length server.boxes = slice_get_within server.boxes j box there in omega (arith, i, ready.count)) in
    let rests = ready.rests j s.0 s.1 c left in
    record {
      has = subst (HasRecordOf box) (sym (resting.record_of s.0 c rests) ∙ ap (λ (a : Area). stored_record a c) (ready.areas j s.0 s.1)) (ready.holds j s.0 box s.1 there);
      undamaged = subst (λ (a : Area). IsUndamaged a c) (ready.areas j s.0 s.1) (resting.undamaged s.0 c rests);
    }

-- what is the same within an area stands for the same box
pub same_stands : DependsOnAreaAlone → (j : ℕ) (box : Box) (c d : List ℕ) → SameWithin (area_of j) c d → StandsForBox j box d → StandsForBox j box c
same_stands local j box c d same stands = record {
  has = subst (HasRecordOf box) (sym (local.record_of (area_of j) c d same)) stands.has;
  undamaged = same_undamaged local (area_of j) c d same stands.undamaged;
}

pub record Replacing (boxes next : List Box) (stores news : List SlotStore) (k : ℕ) (t : List ℕ) (start now : DiskState) (done : Bool) : Type 0 where
  pub ready : IsServerReady (with_stores boxes stores) start
  pub one : ChangesOne k boxes next
  pub count : length next ≡ length boxes
  pub stores_count : length news ≡ length stores
  pub written : (box : Box) → slice_get next k ≡ Some box → IsRecordOf box t
  pub others : (j : ℕ) → j ≢ k → slice_get news j ≡ slice_get stores j
  pub there : (old new : SlotStore) → slice_get stores k ≡ Some old → slice_get news k ≡ Some new → IsReplaced t old new start now done
  pub local : DependsOnAreaAlone
  pub resting : IsResting

module _ (boxes next : List Box) (stores news : List SlotStore) (k : ℕ) (t : List ℕ) (start now : DiskState) (done : Bool) (r : Replacing boxes next stores news k t start now done) where
  one_store : OneReplaced k stores news t start now done
  one_store = record {
    areas = r.ready.areas;
    rests = r.ready.rests;
    few = omega (arith, r.ready.few, r.ready.count);
    inside = omega (arith, r.one.inside, r.ready.count);
    count = r.stores_count;
    others = r.others;
    there = r.there;
    local = r.local;
  }

  abbrev the_old : (s : SlotStore) × (slice_get stores k ≡ Some s)
  the_old = old_store k stores news t start now done one_store

  is : IsReplaced t the_old.0 (new_store k stores news t start now done one_store).0 start now done
  is = is_replaced k stores news t start now done one_store

  old_area : the_old.0.area ≡ area_of k
  old_area = r.ready.areas k the_old.0 the_old.1

  -- an image at entry stands for the boxes
  stands_at : (d : List ℕ) → start.image d → StandsForBoxes boxes d
  stands_at d left = ready_stands (with_stores boxes stores) start r.ready r.resting d left

  framed : (c : List ℕ) → KeepsOutsideArea the_old.0.area start c
      → KeepsOutsideArea (area_of k) start c
  framed = around_area k stores news t start now done one_store

  -- each other box is as it was
  other_stands : (j : ℕ) (box : Box) (c : List ℕ) → j ≢ k → slice_get boxes j ≡ Some box → KeepsOutsideArea (area_of k) start c → StandsForBox j box c
  other_stands j box c other there frame =
      let inside = slice_get_within boxes j box there in
      same_stands r.local j box c frame.0
      (apart j k c frame.0 (omega (arith, inside, r.ready.few)) (omega (arith, r.one.inside, r.ready.few)) other frame.2)
      (stands_at frame.0 frame.1 j box there)

  -- the box whose record this is, at its place
  here_stands : (c : List ℕ) (o : Option (List ℕ)) (j : ℕ) (box : Box) → j ≡ k → IsUndamaged the_old.0.area c
      → stored_record the_old.0.area c ≡ o → HasRecordOf box o → StandsForBox j box c
  here_stands c o j box same undamaged is has = subst (λ (m : ℕ). StandsForBox m box c) (sym same) (record {
    has = subst (HasRecordOf box) (sym is ∙ ap (λ (a : Area). stored_record a c) old_area) has;
    undamaged = subst (λ (a : Area). IsUndamaged a c) old_area undamaged;
  })

  each : (c : List ℕ) → IsOldOrNew start the_old.0.area (content the_old.0) (Some t) c → StandsForEitherBoxes boxes next c
  each c o = ⊎_elim
      (λ old. inl (λ j box there. elim (cases_eq j k) [
        | inl same ↦
            let here : slice_get boxes k ≡ Some box = subst (λ (m : ℕ). slice_get boxes m ≡ Some box) same there in
            here_stands c (content the_old.0) j box same o.undamaged old (r.ready.holds k the_old.0 box the_old.1 here)
        | inr other ↦ other_stands j box c other there (framed c o.frame)
      ]))
      (λ new. inr (λ j box there. elim (cases_eq j k) [
        | inl same ↦
            let here : slice_get next k ≡ Some box = subst (λ (m : ℕ). slice_get next m ≡ Some box) same there in
            here_stands c (Some t) j box same o.undamaged new (r.written box here)
        | inr other ↦ other_stands j box c other (sym (r.one.others j other) ∙ there) (framed c o.frame)
      ]))
      o.either

  -- what lies after the areas is as it was
  behind : (c : List ℕ) → KeepsOutsideArea the_old.0.area start c → IsSameBehind (length boxes) start c
  behind c frame =
      let f = framed c frame in
      (f.0, f.1, behind_one (length boxes) k f.0 c (omega (arith, r.one.inside)) f.2)

  pub any_moment : Span start now (λ c. StandsForEitherBoxes boxes next c × IsSameBehind (length boxes) start c)
  any_moment = widen start now _ _ (λ c o. (each c o, behind c o.frame)) is.any_moment

  pub now_stands : Always (StandsForEitherBoxes boxes next) now
  now_stands c left = ⊎_elim (λ was. inl (stands_at c was)) (λ p. p.0) (any_moment.last c left)

  pub ready_then : done ≡ true → IsServerReady (with_stores next news) now
  ready_then passed = record {
    few = omega (arith, r.ready.few, r.count);
    count = r.stores_count ∙ r.ready.count ∙ sym r.count;
    within = λ j inside. let w = r.ready.within j (omega (arith, inside, r.count)) in omega (arith, w, is.any_moment.size);
    areas = new_areas k stores news t start now done one_store;
    holds = λ j store box there boxed. elim (cases_eq j k) [
      | inl same ↦
          let holds : content store ≡ Some t = ap content (sym (is_new k stores news t start now done one_store j store same there)) ∙ is.holds passed in
          subst (HasRecordOf box) (sym holds) (r.written box (subst (λ (m : ℕ). slice_get next m ≡ Some box) same boxed))
      | inr other ↦ r.ready.holds j store box (sym (r.others j other) ∙ there) (sym (r.one.others j other) ∙ boxed)
    ];
    rests = new_rests k stores news t start now done one_store passed;
  }

-- what the code knows where the record of a box is replaced
pub record Known (server : ServerNow) (boxes next : List Box) (answers : Answers) (stores olds news : List SlotStore) (k : ℕ) (t : List ℕ) (start now : DiskState) (done : Bool) : Type 0 where
  pub ready : IsServerReady server start
  pub seen : with_stores boxes stores ≡ server
  pub lent : olds ≡ stores
  pub change : IsChange boxes answers
  pub next_is : next ≡ answers.next
  pub place_is : answers.changed ≡ Some k
  pub stores_count : length news ≡ length olds
  pub written : (box : Box) → slice_get next k ≡ Some box → IsRecordOf box t
  pub others : (j : ℕ) → j ≢ k → slice_get news j ≡ slice_get olds j
  pub there : (old new : SlotStore) → slice_get olds k ≡ Some old → slice_get news k ≡ Some new → IsReplaced t old new start now done
  pub local : DependsOnAreaAlone
  pub resting : IsResting

module _ (server : ServerNow) (boxes next : List Box) (answers : Answers) (stores olds news : List SlotStore) (k : ℕ) (t : List ℕ) (start now : DiskState) (done : Bool)
    (r : Known server boxes next answers stores olds news k t start now done) where
  replacing : Replacing boxes next olds news k t start now done
  replacing = record {
    ready = subst (λ (s : ServerNow). IsServerReady s start) (sym r.seen ∙ ap (with_stores boxes) (sym r.lent)) r.ready;
    one = subst (ChangesOne k boxes) (sym r.next_is) (r.change.one k r.place_is);
    count = ap length r.next_is ∙ r.change.count;
    stores_count = r.stores_count;
    written = r.written;
    others = r.others;
    there = r.there;
    local = r.local;
    resting = r.resting;
  }

  pub known_moments : Span start now (λ c. StandsForEitherBoxes server.boxes next c × IsSameBehind (length server.boxes) start c)
  known_moments = subst (λ (s : ServerNow). Span start now (λ c. StandsForEitherBoxes s.boxes next c × IsSameBehind (length s.boxes) start c)) r.seen (any_moment boxes next olds news k t start now done replacing)

  pub known_now : Always (StandsForEitherBoxes server.boxes next) now
  known_now = subst (λ (s : ServerNow). Always (StandsForEitherBoxes s.boxes next) now) r.seen (now_stands boxes next olds news k t start now done replacing)

  pub known_ready : done ≡ true → IsServerReady (with_stores next news) now
  known_ready = ready_then boxes next olds news k t start now done replacing

-- ---- what an answer calls

module _ {T : Type 0} (server new : ServerNow) (boxes : List Box) (stores : List SlotStore) where
  pub changed_calls : (olds : List SlotStore) (changed : List Box → Option ℕ) (k : ℕ) (t : List ℕ) (start now : DiskState) (r : Result T Call)
      → with_stores boxes stores ≡ server → olds ≡ stores → changed boxes ≡ Some k
      → ((box : Box) → slice_get new.boxes k ≡ Some box → t ≡ box_text box)
      → ((store : SlotStore) → slice_get olds k ≡ Some store → Called (calls_of (content store) (Some t)) itself start now r)
      → CallsForChange (changed server.boxes) server new start now r
  changed_calls olds changed k t start now r seen lent place written each =
      subst (λ (s : ServerNow). CallsForChange (changed s.boxes) s new start now r) seen
      (subst (λ (o : Option ℕ). CallsForChange o (with_stores boxes stores) new start now r) (sym place)
      (λ store box there boxed. subst (λ (text : List ℕ). Called (calls_of (content store) (Some text)) itself start now r) (written box boxed)
      (each store (ap (λ (xs : List SlotStore). slice_get xs k) lent ∙ there))))

  pub no_calls : (changed : List Box → Option ℕ) (disk : DiskState) (r : Result T Call) → with_stores boxes stores ≡ server
      → changed boxes ≡ None → CallsForChange (changed server.boxes) server new disk disk r
  no_calls changed disk r seen none =
      subst (λ (s : ServerNow). CallsForChange (changed s.boxes) s new disk disk r) seen
      (subst (λ (o : Option ℕ). CallsForChange o (with_stores boxes stores) new disk disk r) (sym none)
      (record { seen = refl; images = λ c left. left }, λ m told. (m, told, omega arith)))
