-- Boxes that are loaded, and areas that get an empty box's record.
use Rattle.std.proofs.Common.{◌≡◌, ◌≢◌, inl, inr, ⊎_elim, ℕ, ◌+◌, ◌<◌, ◌≤◌, Bool, true, List, [], ◌∷◌, Vec, length, Option, Some, None, refl, sym, ◌∙◌, ap, subst, arith}
use Rattle.std.specs.Prelude.{slice_get}
use Rattle.slot_store.specs.Kept.{content_or_empty}
use Rattle.std.proofs.lemmas.Bool.{cases_eq}
use Rattle.std.proofs.lemmas.Option.{slice_get_within}
use Rattle.dr_disk.specs.Spans.{Span}
use Rattle.dr_disk.specs.State.{Always, DiskState}
use Rattle.dr_disk.proofs.Steps.{spans, widen}
use Rattle.slot_store.specs.Areas.{Area, HasText, IsSameOutsideArea}
use Rattle.slot_store.specs.Laws.{DependsOnAreaAlone}
use Rattle.slot_store.specs.Reading.{IsUndamaged}
use Rattle.slot_store.specs.Records.{stored_record}
use Rattle.slot_store.specs.Store.{IsOldOrNew, HasArea, KeepsOutsideArea, Rests, SlotStore, content}
use Rattle.relay_core.specs.Boxes.{Box, empty_box, spec_of}
use Rattle.relay_core.specs.declared.spec.BoxSpec.{BoxSpec}
use Rattle.relay_core.specs.declared.limits.TheConstants.{RELAY_LIMIT}
use Rattle.relay_core.specs.Record.{IsRecordOf, box_text}
use Rattle.relay_server.specs.declared.limits.TheConstants.{RECORD_PAGES}
use Rattle.relay_server.specs.Durable.{IsReplaced}
use Rattle.relay_server.specs.Places.{IsBoxRoom, area_of}
use Rattle.relay_server.specs.Filling.{AreFilled, HasBox, IsFilling}
use Rattle.relay_server.specs.Opening.{StaysOrBegins}
use Rattle.relay_server.specs.Reading.{AreNoWorse, box_fault_of}
use Rattle.relay_server.proofs.LoadedBoxes.{no_record}
use Rattle.relay_server.proofs.Behind.{behind_one, behind_self, behind_twice}
use Rattle.relay_server.proofs.OneStore.{apart, same_undamaged, there_is, OneReplaced, old_store, new_store, is_replaced, is_new, around_area, new_areas, new_rests}
use Rattle.relay_server.proofs.OpenedAreas.{other_same}

filling_self : (boxes : List Box) (start : DiskState) (c : List ℕ) → start.image c → IsFilling boxes start c
filling_self boxes start c left = record { entry = c; image = left; each = λ k box there. inl refl; undamaged = λ k less whole. whole; outside = behind_self (length boxes) c }

-- stays or begins, twice
twice : (spec : BoxSpec) (a b c : Option (List ℕ)) → StaysOrBegins spec a b → StaysOrBegins spec b c → StaysOrBegins spec a c
twice spec a b c first next = ⊎_elim
    (λ same. ⊎_elim (λ was. inl (same ∙ was)) (λ begun. inr (begun.0, same ∙ begun.1)) first)
    (λ begins. ⊎_elim (λ was. inr (sym was ∙ begins.0, begins.1)) (λ begun. absurd (let e : None ≡ Some (box_text (empty_box spec)) = sym begins.0 ∙ begun.1 in cc)) first)
    next

-- two calls in turn
pub filling_on : (boxes : List Box) (start d now : DiskState) → Span start d (IsFilling boxes start) → Span d now (IsFilling boxes d) → Span start now (IsFilling boxes start)
filling_on boxes start d now first next = spans start d now (IsFilling boxes start) first (widen d now _ _ (λ c is.
    let was = ⊎_elim (filling_self boxes start is.entry) (λ p. p) (first.last is.entry is.image) in
    record {
      entry = was.entry;
      image = was.image;
      each = λ k box there. twice (spec_of box) _ _ _ (was.each k box there) (is.each k box there);
      undamaged = λ k less whole. is.undamaged k less (was.undamaged k less whole);
      outside = behind_twice (length boxes) was.entry is.entry c was.outside is.outside;
    }) next)

-- ---- a record is never empty

pub none_there : (n k : ℕ) (box : Box) (o : Option (List ℕ)) → HasBox n k box o → length (content_or_empty o) ≡ 0 → o ≡ None
none_there n k box None has is = refl
none_there n k box (Some []) has is = absurd (let e : Some 0 ≡ None = sym no_record ∙ ap box_fault_of has in cc)
none_there n k box (Some (x ∷ text)) has is = absurd (omega (arith, is))

-- ---- nothing is put, where a record stands

later_text : (n k : ℕ) (box : Box) (text : Option (List ℕ)) → HasBox n k box text → k ≢ n → HasBox (n + 1) k box text
later_text n k box None has other = (omega (arith, has.0, other), has.1)
later_text n k box (Some t) has other = has

stays_text : (n k : ℕ) (box : Box) (text : Option (List ℕ)) (t : List ℕ) → HasBox n k box text → text ≡ Some t → HasBox (n + 1) k box text
stays_text n k box None t has is = absurd (let e : None ≡ Some t = is in cc)
stays_text n k box (Some s) t has is = has

-- what a call in one area needs
pub place_ready : {Z : Type 0} (n : ℕ) (boxes : List Box) (stores : List SlotStore) (d : DiskState) (text : Vec ℕ Z) (len : ℕ)
    → AreFilled n boxes stores d → n < length boxes → IsBoxRoom text.items → len ≤ length text.items → (store : SlotStore) → slice_get stores n ≡ Some store
    → HasText store.area text len × HasArea store.area d × Always (Rests store) d × (store.area.most ≡ RECORD_PAGES)
place_ready n boxes stores d text len filled inside room few store there =
    let area = filled.areas n store there in (
      subst (λ (a : Area). HasText a text len) (sym area) (record {
        memory = omega (arith, room, text.ok.0, text.ok.1);
        room = omega (arith, few, room);
        few = omega (arith, few, room);
      }),
      subst (λ (a : Area). HasArea a d) (sym area) (omega (arith, inside, filled.within)),
      filled.rests n store there,
      ap (λ (a : Area). a.most) area,
    )

pub stands_on : (n : ℕ) (boxes : List Box) (stores : List SlotStore) (d : DiskState) (store : SlotStore) (t : List ℕ) → AreFilled n boxes stores d → slice_get stores n ≡ Some store → content store ≡ Some t → AreFilled (n + 1) boxes stores d
stands_on n boxes stores d store t filled here has = record {
  few = filled.few;
  count = filled.count;
  within = filled.within;
  areas = filled.areas;
  rests = filled.rests;
  each = λ k other box there boxed. elim (cases_eq k n) [
    | inl same ↦
        let e : Some store ≡ Some other = sym here ∙ subst (λ (m : ℕ). slice_get stores m ≡ Some other) same there in
        let f : store ≡ other = cc in
        stays_text n k box (content other) t (filled.each k other box there boxed) (ap content (sym f) ∙ has)
    | inr another ↦ later_text n k box (content other) (filled.each k other box there boxed) another
  ];
}

-- ---- an empty box's record is put

pub record Put (n : ℕ) (boxes : List Box) (stores news : List SlotStore) (t : List ℕ) (start now : DiskState) (done : Bool) : Type 0 where
  pub filled : AreFilled n boxes stores start
  pub inside : n < length boxes
  pub none : (store : SlotStore) → slice_get stores n ≡ Some store → content store ≡ None
  pub stores_count : length news ≡ length stores
  pub written : (box : Box) → slice_get boxes n ≡ Some box → t ≡ box_text box
  pub is_record : (box : Box) → slice_get boxes n ≡ Some box → IsRecordOf box t
  pub others : (j : ℕ) → j ≢ n → slice_get news j ≡ slice_get stores j
  pub there : (old new : SlotStore) → slice_get stores n ≡ Some old → slice_get news n ≡ Some new → IsReplaced t old new start now done
  pub local : DependsOnAreaAlone
  pub resting : (store : SlotStore) (c : List ℕ) → Rests store c → stored_record store.area c ≡ content store

empty_there : (n : ℕ) (box : Box) (text : Option (List ℕ)) → text ≡ None → HasBox n n box text → box ≡ empty_box (spec_of box)
empty_there n box None is has = has.1
empty_there n box (Some t) is has = absurd (let e : Some t ≡ None = is in cc)

module _ (n : ℕ) (boxes : List Box) (stores news : List SlotStore) (t : List ℕ) (start now : DiskState) (done : Bool) (r : Put n boxes stores news t start now done) where
  one_store : OneReplaced n stores news t start now done
  one_store = record {
    areas = r.filled.areas;
    rests = r.filled.rests;
    few = omega (arith, r.filled.few, r.filled.count);
    inside = omega (arith, r.inside, r.filled.count);
    count = r.stores_count;
    others = r.others;
    there = r.there;
    local = r.local;
  }

  abbrev the_old : (s : SlotStore) × (slice_get stores n ≡ Some s)
  the_old = old_store n stores news t start now done one_store

  the_box : (b : Box) × (slice_get boxes n ≡ Some b)
  the_box = there_is boxes n r.inside

  is : IsReplaced t the_old.0 (new_store n stores news t start now done one_store).0 start now done
  is = is_replaced n stores news t start now done one_store

  old_area : the_old.0.area ≡ area_of n
  old_area = r.filled.areas n the_old.0 the_old.1

  framed : (c : List ℕ) → KeepsOutsideArea the_old.0.area start c
      → KeepsOutsideArea (area_of n) start c
  framed = around_area n stores news t start now done one_store

  -- before, the area has no record
  was_none : (d : List ℕ) → start.image d → stored_record (area_of n) d ≡ None
  was_none d left = ap (λ (a : Area). stored_record a d) (sym old_area) ∙ r.resting the_old.0 d (r.filled.rests n the_old.0 the_old.1 d left) ∙ r.none the_old.0 the_old.1

  empty_text : t ≡ box_text (empty_box (spec_of the_box.0))
  empty_text = r.written the_box.0 the_box.1 ∙ ap box_text (empty_there n the_box.0 (content the_old.0) (r.none the_old.0 the_old.1) (r.filled.each n the_old.0 the_box.0 the_old.1 the_box.1))

  named : (box : Box) → slice_get boxes n ≡ Some box → the_box.0 ≡ box
  named box there = let e : Some the_box.0 ≡ Some box = sym the_box.1 ∙ there in cc

  either : (c : List ℕ) (box : Box) → slice_get boxes n ≡ Some box → IsOldOrNew start the_old.0.area (content the_old.0) (Some t) c → (d : List ℕ) → start.image d → StaysOrBegins (spec_of box) (stored_record (area_of n) d) (stored_record (area_of n) c)
  either c box there o d left =
      let at : stored_record (area_of n) c ≡ stored_record the_old.0.area c = ap (λ (a : Area). stored_record a c) (sym old_area) in
      ⊎_elim (λ old. inl (at ∙ old ∙ r.none the_old.0 the_old.1 ∙ sym (was_none d left)))
      (λ new. inr (was_none d left, at ∙ new ∙ ap (λ (x : List ℕ). Some x) (empty_text ∙ ap (λ (b : Box). box_text (empty_box (spec_of b))) (named box there)))) o.either

  few_box : (k : ℕ) (box : Box) → slice_get boxes k ≡ Some box → k < RELAY_LIMIT
  few_box k box there = let inside = slice_get_within boxes k box there in omega (arith, inside, r.filled.few)

  no_worse : (c d : List ℕ) → IsSameOutsideArea (area_of n) d c → IsUndamaged the_old.0.area c → AreNoWorse (length boxes) d c
  no_worse c d same whole k less was = elim (cases_eq k n) [
    | inl here ↦ subst (λ (a : Area). IsUndamaged a c) (old_area ∙ ap area_of (sym here)) whole
    | inr other ↦ same_undamaged r.local (area_of k) c d
        (apart k n c d (omega (arith, less, r.filled.few)) (omega (arith, r.inside, r.filled.few)) other same) was
  ]

  each : (c : List ℕ) → IsOldOrNew start the_old.0.area (content the_old.0) (Some t) c → IsFilling boxes start c
  each c o =
      let frame = framed c o.frame in
      record {
        entry = frame.0;
        image = frame.1;
        each = λ k box there. elim (cases_eq k n) [
          | inl same ↦
              let here : slice_get boxes n ≡ Some box = subst (λ (m : ℕ). slice_get boxes m ≡ Some box) same there in
              subst (λ (m : ℕ). StaysOrBegins (spec_of box) (stored_record (area_of m) frame.0) (stored_record (area_of m) c)) (sym same) (either c box here o frame.0 frame.1)
          | inr other ↦ inl (other_same r.local k n frame.0 c (few_box k box there) (omega (arith, r.inside, r.filled.few)) other frame.2)
        ];
        undamaged = no_worse c frame.0 frame.2 o.undamaged;
        outside = behind_one (length boxes) n frame.0 c r.inside frame.2;
      }

  pub put_moments : Span start now (IsFilling boxes start)
  put_moments = widen start now _ _ each is.any_moment

  pub put_filled : done ≡ true → AreFilled (n + 1) boxes news now
  put_filled passed = record {
    few = r.filled.few;
    count = r.stores_count ∙ r.filled.count;
    within = let w = r.filled.within in omega (arith, w, is.any_moment.size);
    areas = new_areas n stores news t start now done one_store;
    rests = new_rests n stores news t start now done one_store passed;
    each = λ j store box there boxed. elim (cases_eq j n) [
      | inl same ↦
          let f = is_new n stores news t start now done one_store j store same there in
          let holds : content store ≡ Some t = ap content (sym f) ∙ is.holds passed in
          subst (HasBox (n + 1) j box) (sym holds) (r.is_record box (subst (λ (m : ℕ). slice_get boxes m ≡ Some box) same boxed))
      | inr other ↦ later_text n j box (content store) (r.filled.each j store box (sym (r.others j other) ∙ there) boxed) other
    ];
  }
