-- A server that is opened, and why none is.
use Rattle.std.proofs.Common.{◌≡◌, inl, ⊎_elim, ℕ, ◌<◌, List, length, map, Option, Some, None, refl, sym, ◌∙◌, ap, subst, arith}
use Rattle.std.specs.Prelude.{option_map, slice_get}
use Rattle.std.proofs.lemmas.Option.{slice_get-map, slice_get_within}
use Rattle.std.proofs.lemmas.List.{length-map}
use Rattle.dr_base.specs.Causes.{Rose}
use Rattle.dr_disk.specs.declared.call.Call.{Call}
use Rattle.dr_disk.specs.Spans.{Span}
use Rattle.dr_disk.specs.State.{DiskState}
use Rattle.dr_disk.proofs.Steps.{quiet_twice, spans, widen}
use Rattle.slot_store.specs.Records.{stored_record}
use Rattle.slot_store.specs.Store.{SlotStore, content}
use Rattle.relay_core.specs.Boxes.{Box, empty_box, guard_by, keys_by, spec_of}
use Rattle.relay_core.specs.Loading.{Fits}
use Rattle.relay_core.specs.declared.loading.Loaded.{Loaded}
use Rattle.relay_core.specs.declared.loading.Loaded.TheVariants.{OtherKeys, OtherName}
use Rattle.relay_core.specs.declared.spec.BoxKeys.{BoxKeys}
use Rattle.relay_core.specs.declared.spec.BoxSpec.{BoxSpec}
use Rattle.relay_server.specs.Areas.{AreOpened, HasLooked, IsLikeEntry, store_reading}
use Rattle.relay_server.specs.Places.{HasRoomFor, SameBehind, area_of}
use Rattle.relay_server.specs.Durable.{ServerNow}
use Rattle.relay_server.specs.Looking.{HasSettled, IsLooked}
use Rattle.relay_server.specs.Filling.{AreFilled, AreLoaded, AreUnloaded, HasBox, IsFilling, IsFirstOthers, IsBoxKept, IsOthers}
use Rattle.relay_server.specs.Opening.{AreBoxesRead, GivesBox, HasAnother, HasOther, IsServerOpened, IsOpening, IsServerUnopened, StaysOrBegins}
use Rattle.relay_server.specs.Reading.{IsUndamagedReading}
use Rattle.relay_server.specs.declared.errors.ServerOpenError.{ServerOpenError}
use Rattle.relay_server.specs.declared.errors.ServerOpenError.TheVariants.{BoxKeys as OtherBoxKeys, BoxName, Damaged, Memory, StoreFault}
use Rattle.relay_server.proofs.Behind.{behind_twice}
use Rattle.relay_server.proofs.OpenedAreas.{entry_self, whole_of}
use Rattle.relay_server.proofs.Replacing.{with_stores}
use Rattle.relay_server.proofs.OneStore.{there_is}

-- ---- specs and the boxes that begin with them

begins_as : (specs : List BoxSpec) (k : ℕ) (spec : BoxSpec) → slice_get specs k ≡ Some spec
    → slice_get (map empty_box specs) k ≡ Some (empty_box spec)
begins_as specs k spec is = slice_get-map empty_box specs k ∙ ap (option_map empty_box) is

same_keys : (keys : Option BoxKeys) → keys_by (guard_by keys) ≡ keys
same_keys None = refl
same_keys (Some keys) = refl

spec_again : (spec : BoxSpec) → spec_of (empty_box spec) ≡ spec
spec_again spec =
    ap (λ (keys : Option BoxKeys). let made : BoxSpec = record { name = spec.name; keys = keys } in made) (same_keys spec.keys)

-- ---- by the text of one store

gives_of : (spec : BoxSpec) (box : Box) (text : Option (List ℕ)) → IsBoxKept (empty_box spec) box text → GivesBox spec box (store_reading text)
gives_of spec box None is = is
gives_of spec box (Some text) is = (is.0, is.1 ∙ spec_again spec)

made_of : (spec : BoxSpec) (box : Box) (text : Option (List ℕ)) → IsBoxKept (empty_box spec) box text → spec_of box ≡ spec
made_of spec box None is = ap spec_of is ∙ spec_again spec
made_of spec box (Some text) is = is.1 ∙ spec_again spec

has_of : (k : ℕ) (spec : BoxSpec) (box : Box) (text : Option (List ℕ)) → IsBoxKept (empty_box spec) box text → HasBox 0 k box text
has_of k spec box None is = (omega arith, is ∙ ap empty_box (sym (spec_again spec)) ∙ ap (λ (b : Box). empty_box (spec_of b)) (sym is))
has_of k spec box (Some text) is = is.0

other_of : (how : Loaded) (spec : BoxSpec) (text : Option (List ℕ)) → IsOthers how (empty_box spec) text → HasOther how spec (store_reading text)
other_of how spec None is = is
other_of how spec (Some text) is = (is.0, is.1, subst (λ (x : BoxSpec). Fits how x is.0) (spec_again spec) is.2)

-- ---- what a crash leaves

opening_like : (specs : List BoxSpec) (start : DiskState) (c : List ℕ) → IsLikeEntry (length specs) start c → IsOpening specs start c
opening_like specs start c like = record { entry = like.entry; image = like.image; each = λ k spec there. inl (like.same k (slice_get_within specs k spec there)); undamaged = like.undamaged; outside = like.outside }

pub look_moments : (specs : List BoxSpec) (start now : DiskState) → HasLooked (length specs) start now → Span start now (IsOpening specs start)
look_moments specs start now looks = widen start now _ _ (opening_like specs start) looks.during

module _ (specs : List BoxSpec) (start mid : DiskState) (stores : List SlotStore) (opened : AreOpened (length specs) (length specs) stores start mid) where
  store_at : (k : ℕ) → k < length specs → (s : SlotStore) × (slice_get stores k ≡ Some s)
  store_at k inside = there_is stores k (omega (arith, inside, opened.count_is))

  -- ---- an area has the record of another box

  another : (how : Loaded) (k : ℕ) → IsFirstOthers how k (map empty_box specs) stores → HasAnother how specs start mid k
  another how k first = (
    omega (arith, first.inside, length-map specs empty_box),
    opened.quiet,
    λ s was. record {
      inside = omega (arith, first.inside, length-map specs empty_box);
      whole = λ j inside. let at = store_at j inside in subst IsUndamagedReading (sym (opened.read s was j at.0 at.1)) (whole_of (content at.0));
      before = λ j spec less made.
          let at = store_at j (omega (arith, slice_get_within specs j spec made)) in
          let box = first.before j (empty_box spec) at.0 less (begins_as specs j spec made) at.1 in
          (box.0, subst (GivesBox spec box.0) (sym (opened.read s was j at.0 at.1)) (gives_of spec box.0 (content at.0) box.1));
      here = λ spec made.
          let at = store_at k (slice_get_within specs k spec made) in
          subst (HasOther how spec) (sym (opened.read s was k at.0 at.1)) (other_of how spec (content at.0) (first.here (empty_box spec) at.0 (begins_as specs k spec made) at.1));
    },
  )

  pub unloaded : (error : ServerOpenError) → AreUnloaded (map empty_box specs) stores error → IsServerUnopened specs start mid error
  unloaded (BoxName k) first = another OtherName k first
  unloaded (OtherBoxKeys k) first = another OtherKeys k first
  unloaded Memory first = absurd first
  unloaded (StoreFault call) first = absurd first
  unloaded (Damaged area slot at) first = absurd first

  -- ---- all boxes are loaded

  module _ (boxes : List Box) (loaded : AreLoaded (length (map empty_box specs)) (map empty_box specs) boxes stores) where
    count_is : length boxes ≡ length specs
    count_is = loaded.count ∙ length-map specs empty_box

    kept_at : (k : ℕ) (spec : BoxSpec) (box : Box) (store : SlotStore) → slice_get specs k ≡ Some spec → slice_get boxes k ≡ Some box → slice_get stores k ≡ Some store → IsBoxKept (empty_box spec) box (content store)
    kept_at k spec box store made boxed there =
        loaded.loaded k (empty_box spec) box store (omega (arith, slice_get_within specs k spec made, length-map specs empty_box)) (begins_as specs k spec made) boxed there

    made_at : (k : ℕ) (spec : BoxSpec) (box : Box) → slice_get specs k ≡ Some spec → slice_get boxes k ≡ Some box → spec_of box ≡ spec
    made_at k spec box made boxed =
        let at = store_at k (slice_get_within specs k spec made) in
        made_of spec box (content at.0) (kept_at k spec box at.0 made boxed at.1)

    to_fill : HasRoomFor specs start → AreFilled 0 boxes stores mid
    to_fill fits = record {
      count = opened.count_is ∙ sym count_is;
      few = omega (arith, fits.few, count_is);
      within = omega (arith, fits.within, count_is, opened.looked.during.size);
      areas = opened.areas;
      rests = opened.rests;
      each = λ k store box there boxed.
          let spec = there_is specs k (omega (arith, slice_get_within stores k store there, opened.count_is)) in
          has_of k spec.0 box (content store) (kept_at k spec.0 box store spec.1 boxed there);
    }

    pub looked_then : HasRoomFor specs start → IsLooked specs (with_stores boxes stores) start mid
    looked_then fits = record {
      unsettled = to_fill fits;
      boxes = record {
        count = count_is;
        made = made_at;
        read = λ s was k spec box made boxed.
            let at = store_at k (slice_get_within specs k spec made) in
            subst (GivesBox spec box) (sym (opened.read s was k at.0 at.1)) (gives_of spec box (content at.0) (kept_at k spec box at.0 made boxed at.1));
      };
      quiet = opened.quiet;
    }

-- ---- settled after a look

module _ (specs : List BoxSpec) (start mid now : DiskState) (looked : ServerNow) (is_looked : IsLooked specs looked start mid)
    (looks : HasLooked (length specs) start mid) (span : Span mid now (IsFilling looked.boxes mid)) where
  filling_is : (c : List ℕ) → IsFilling looked.boxes mid c → IsOpening specs start c
  filling_is c is =
      let like : IsLikeEntry (length specs) start is.entry = ⊎_elim (entry_self (length specs) start is.entry) (λ p. p) (looks.during.last is.entry is.image) in
      record {
        entry = like.entry;
        image = like.image;
        each = λ k spec made.
            let box = there_is looked.boxes k (omega (arith, slice_get_within specs k spec made, is_looked.boxes.count)) in
            subst (λ (o : Option (List ℕ)). StaysOrBegins spec o (stored_record (area_of k) c))
            (like.same k (slice_get_within specs k spec made))
            (subst (λ (x : BoxSpec). StaysOrBegins x (stored_record (area_of k) is.entry) (stored_record (area_of k) c)) (is_looked.boxes.made k spec box.0 made box.1) (is.each k box.0 box.1));
        undamaged = λ k less whole. is.undamaged k (omega (arith, less, is_looked.boxes.count)) (like.undamaged k less whole);
        outside = behind_twice (length specs) like.entry is.entry c like.outside (subst (λ (n : ℕ). SameBehind n is.entry c) is_looked.boxes.count is.outside);
      }

  pub settled_moments : Span start now (IsOpening specs start)
  settled_moments = spans start mid now (IsOpening specs start) (look_moments specs start mid looks) (widen mid now _ _ filling_is span)

  -- a call on the disk failed
  pub fault_then : (call : Call) → Rose (mid.faults call) (now.faults call) → Rose (start.faults call) (now.faults call)
  fault_then call rose = omega (arith, rose, looks.during.counts call)

  -- all areas have their boxes
  pub opened_then : (server : ServerNow) → HasSettled looked server mid now → IsServerOpened specs server start now
  opened_then server settled = record {
    ready = settled.ready;
    boxes = subst (λ (bs : List Box). AreBoxesRead specs bs start) (sym settled.boxes) is_looked.boxes;
    quiet = quiet_twice start mid now is_looked.quiet settled.quiet;
  }
