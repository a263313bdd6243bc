-- What a plan gives a pager that was staged.
use Rattle.std.proofs.Common.{◌≡◌, ◌⊎◌, inl, inr, ⊎_elim, ℕ, ◌+◌, ◌*◌, ◌≤◌, ◌<◌, List, Some, length, length-take-le, map, take, sym, ◌∙◌, ap, subst, arith}
use Rattle.std.specs.Prelude.{All, slice_index}
use Rattle.dr_base.specs.declared.limits.TheConstants.{PAGE}
use Rattle.pages.specs.Layouts.{IsPage}
use Rattle.pages.specs.Writing.{AreDistinct, ArePages, IsNoneOf, IsOneOf, piece_at}
use Rattle.record_pages.specs.Pages.{cut, pages_in}
use Rattle.record_pages.specs.Plans.{changed, changed_places, dropped, numbered}
use Rattle.record_pages.proofs.ChangedPlaces.{map_changed, place_inside, places_count}
use Rattle.record_pages.proofs.Dropped.{IsNone, covers, dropped_count}
use Rattle.record_pages.proofs.LawfulEntries.{entries_distinct, entries_lawful, entry_at}
use Rattle.record_pages.proofs.PlanEntries.{ArePlanned as IsPlan}
use Rattle.record_pages.proofs.Planned.{planned}
use Rattle.record_pages.proofs.Renumbered.{numbered_short}
use Rattle.slot_store.specs.declared.pager.Pager.{Pager}
use Rattle.slot_store.specs.Areas.{Area, Fits, bounds_of, layout_of}
use Rattle.slot_store.specs.Layout.{Mark, free_in, pages_held}
use Rattle.slot_store.specs.Putting.{IsStaged}
use Rattle.slot_store.specs.Stops.{wipes_of, writes_of}
use Rattle.slot_store.specs.Pager.{content, mark}
use Rattle.slot_store.proofs.Puts.Contents.{pages_are}
use Rattle.slot_store.proofs.Puts.AreaBounds.{area_bounds}
use Rattle.slot_store.proofs.Puts.HasPlan.{AreOthers, HasPlan, fresh}
use Rattle.paged_records.proofs.Replanned.{IsKept, free_left, kept_is, old_long, old_pages, plan_is}

-- ---- numbers of an area's pages

module _ (area : Area) (m : ℕ) (numbers : List ℕ) where
  others_of : All (IsPage (layout_of area)) numbers → IsNone m numbers → AreOthers area m numbers
  others_of pages none k d lt = (pages k d lt, none k d lt)

  none_of : AreOthers area m numbers → IsNone m numbers
  none_of others k d lt = (others k d lt).1

module _ (pager : Pager) where
  -- a pager's own numbers are pages
  pub pager_named : All (IsPage (layout_of pager.area)) pager.kept.numbers.items
  pager_named = (entries_lawful 2 pager.area.pages pager.kept.numbers.items pager.entries).within

  pub drops_pages : ArePages (layout_of pager.area) pager.draft.plan.dropped.items
  drops_pages = entry_at 2 pager.area.pages pager.draft.plan.dropped.items
      (entries_lawful 2 pager.area.pages pager.draft.plan.dropped.items pager.drops)

  pub drops_distinct : AreDistinct pager.draft.plan.dropped.items
  drops_distinct = entries_distinct 2 pager.area.pages pager.draft.plan.dropped.items
      (entries_lawful 2 pager.area.pages pager.draft.plan.dropped.items pager.drops)

  kept_in : IsKept (bounds_of pager.area) pager.kept.len pager.kept.bytes.items pager.kept.numbers.items
  kept_in = kept_is (bounds_of pager.area) pager.kept pager.few pager.entries

module _ (old new : Pager) (text : List ℕ) (staged : IsStaged old new text)
    (fits : Fits old.area text) where
  abbrev Pages : List (List ℕ)
  Pages = pages_in (take old.kept.len old.kept.bytes.items)

  abbrev Numbers : List ℕ
  Numbers = old.kept.numbers.items

  abbrev Fresh : List ℕ
  Fresh = take (length (changed Pages (pages_in text))) (free_in old.area Numbers)

  abbrev Named : List ℕ
  Named = numbered Pages Numbers (pages_in text) Fresh

  abbrev Dropped : List ℕ
  Dropped = dropped Pages Numbers (pages_in text)

  plan : IsPlan 2 old.area.pages Pages Numbers (pages_in text) Fresh
  plan = plan_is (bounds_of old.area) (area_bounds old.area old.lawful) old.kept.len old.kept.bytes.items Numbers (kept_in old) text
      fits

  each : length Numbers ≡ length Pages
  each = old_long (bounds_of old.area) (area_bounds old.area old.lawful) old.kept.len old.kept.bytes.items Numbers (kept_in old)

  left : length (changed Pages (pages_in text)) ≤ length (free_in old.area Numbers)
  left = free_left (bounds_of old.area) (area_bounds old.area old.lawful) old.kept.len old.kept.bytes.items Numbers (kept_in old) text
      fits

  fresh_long : length Fresh ≡ length (changed Pages (pages_in text))
  fresh_long = length-take-le (length (changed Pages (pages_in text))) (free_in old.area Numbers)
      left

  -- ---- what the pager has

  places_are : new.draft.plan.places.items ≡ changed_places 0 Pages (pages_in text)
  places_are = staged.places
      ∙ ap (λ (l : List (List ℕ)). changed_places 0 l (pages_in text)) (pages_are old)

  count : length new.draft.plan.places.items ≡ length (changed Pages (pages_in text))
  count = ap (λ (l : List ℕ). length l) places_are ∙ places_count 0 Pages (pages_in text)

  fresh_are : fresh new ≡ Fresh
  fresh_are = ap (λ n. take n new.draft.free.items) count
      ∙ ap (λ (l : List ℕ). take (length (changed Pages (pages_in text))) l) staged.free

  named_as : new.kept.numbers.items ≡ numbered (pages_held (content old)) Numbers (pages_in text)
      (free_in old.area Numbers)
  unfolding mark
  named_as = ap (λ (m : Mark). m.numbers) staged.next.mark

  named_are : new.kept.numbers.items ≡ Named
  named_are = named_as
      ∙ ap (λ (l : List (List ℕ)). numbered l Numbers (pages_in text) (free_in old.area Numbers))
      (pages_are old)
      ∙ numbered_short Pages Numbers (pages_in text) (free_in old.area Numbers)

  drops_are : new.draft.plan.dropped.items ≡ Dropped
  drops_are = staged.dropped
      ∙ ap (λ (l : List (List ℕ)). dropped l Numbers (pages_in text)) (pages_are old)

  -- its text, in pages
  cut_is : pages_in text ≡ cut (length new.kept.numbers.items) new.kept.bytes.items
  cut_is = sym (old_pages (bounds_of new.area) (area_bounds new.area new.lawful) new.kept.len new.kept.bytes.items
      new.kept.numbers.items (kept_in new) ∙ sym (pages_are new) ∙ ap pages_held staged.holds)

  room : PAGE * length new.kept.numbers.items ≤ length new.kept.bytes.items
  room = new.kept.fits

  inside : (j : ℕ) → j < length new.draft.plan.places.items
      → PAGE * slice_index new.draft.plan.places.items j + PAGE ≤ length new.kept.bytes.items
  inside = subst (λ (ps : List ℕ). (j : ℕ) → j < length ps
      → PAGE * slice_index ps j + PAGE ≤ length new.kept.bytes.items) (sym places_are)
      (place_inside Pages (pages_in text) (length new.kept.numbers.items) new.kept.bytes.items cut_is
      room)

  abbrev Written : (ℕ → List ℕ) → List ℕ → List ℕ → Type 0
  Written f numbers places = (j : ℕ) → j < length numbers
      → f (slice_index numbers j) ≡ piece_at new.kept.bytes.items places j

  holds : (f : ℕ → List ℕ) → map f Numbers ≡ pages_held (content old)
      → Written f (fresh new) new.draft.plan.places.items
      → map f new.kept.numbers.items ≡ pages_in text
  holds f kept written =
      ap (λ (ns : List ℕ). map f ns) named_are
      ∙ planned f Pages Numbers (pages_in text) Fresh (kept ∙ pages_are old)
      (map_changed Pages (pages_in text) (length new.kept.numbers.items) new.kept.bytes.items cut_is
      f Fresh fresh_long
      (subst (λ (ps : List ℕ). Written f Fresh ps) places_are
      (subst (λ (ns : List ℕ). Written f ns new.draft.plan.places.items) fresh_are written)))

  beside : (j : ℕ) → j < length (fresh new)
      → AreOthers old.area (slice_index (fresh new) j) Numbers
  beside = subst (λ (ns : List ℕ). (j : ℕ) → j < length ns
      → AreOthers old.area (slice_index ns j) Numbers) (sym fresh_are)
      (λ j lt. others_of old.area (slice_index Fresh j) Numbers (pager_named old)
      (plan.unused j 0 lt))

  gone : (j : ℕ) → j < length Dropped → AreOthers old.area (slice_index Dropped j) Named
  gone j lt = others_of old.area (slice_index Dropped j) Named plan.named_are.within
      (plan.gone j 0 lt)

  drops_beside : (j : ℕ) → j < length new.draft.plan.dropped.items
      → AreOthers old.area (slice_index new.draft.plan.dropped.items j) new.kept.numbers.items
  drops_beside =
      subst (λ (ds : List ℕ). (j : ℕ) → j < length ds
      → AreOthers old.area (slice_index ds j) new.kept.numbers.items) (sym drops_are)
      (subst (λ (ns : List ℕ). (j : ℕ) → j < length Dropped
      → AreOthers old.area (slice_index Dropped j) ns) (sym named_are) gone)

  covered : (m : ℕ) → AreOthers old.area m new.kept.numbers.items
      → IsOneOf m new.draft.plan.dropped.items
      ⊎ (AreOthers old.area m Numbers × IsNoneOf m (fresh new))
  covered m others = ⊎_elim
      (λ one. inl (subst (λ (ds : List ℕ). IsOneOf m ds) (sym drops_are) one))
      (λ both. inr (
        others_of old.area m Numbers (pager_named old) both.0,
        subst (λ (ns : List ℕ). IsNoneOf m ns) (sym fresh_are)
            (λ j lt is. both.1 j 0 lt (sym is)),
      ))
      (covers m Pages Numbers (pages_in text) Fresh each fresh_long
      (none_of old.area m Named (subst (λ (ns : List ℕ). AreOthers old.area m ns) named_are
      others)))

  writes : length (fresh new) ≡ writes_of (content old) (Some text)
  unfolding writes_of
  writes = ap (λ (ns : List ℕ). length ns) fresh_are ∙ fresh_long
      ∙ ap (λ (l : List (List ℕ)). length (changed l (pages_in text))) (sym (pages_are old))

  wipes : length new.draft.plan.dropped.items ≡ wipes_of (content old) (Some text)
  unfolding writes_of
  wipes = ap (λ (ds : List ℕ). length ds) drops_are
      ∙ dropped_count Pages Numbers (pages_in text) each
      ∙ ap (λ (l : List (List ℕ)). length (changed (pages_in text) l)) (sym (pages_are old))

  pub plans : HasPlan old new text
  plans = record {
    enough = omega (arith, count, ap (λ (l : List ℕ). length l) staged.free, left);
    pages = subst (λ (ns : List ℕ). ArePages (layout_of old.area) ns) (sym fresh_are)
        (entry_at 2 old.area.pages Fresh plan.fresh_are);
    beside = beside;
    pieces = record {
      each = count ∙ sym (ap (λ (ns : List ℕ). length ns) fresh_are ∙ fresh_long);
      inside = inside;
    };
    named = subst (All (IsPage (layout_of old.area))) (sym named_are) plan.named_are.within;
    holds = holds;
    distinct = subst (λ (ns : List ℕ). AreDistinct ns) (sym fresh_are)
        (entries_distinct 2 old.area.pages Fresh plan.fresh_are);
    drops_beside = drops_beside;
    covers = covered;
    writes = writes;
    wipes = wipes;
  }
