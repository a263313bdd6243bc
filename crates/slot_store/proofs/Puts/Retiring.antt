-- A retire: what it begins with, and what it leaves.
use Rattle.std.proofs.Common.{◌≡◌, inl, ⊎_elim, ℕ, ◌^◌, ◌<◌, false, List, Result, Ok, refl, sym, ◌∙◌, ap, subst}
use Rattle.std.specs.Prelude.{All, not, slice_index}
use Rattle.dr_disk.specs.declared.call.Call.{Call}
use Rattle.dr_disk.specs.State.{Always, DiskState, IsLawful}
use Rattle.dr_disk.specs.Spans.{Span}
use Rattle.dr_disk.proofs.Steps.{widen}
use Rattle.pages.specs.declared.layout.Layout.{Layout}
use Rattle.pages.specs.Around.{KeepsOutside}
use Rattle.pages.specs.Layouts.{IsPage, blank_page}
use Rattle.pages.specs.Tables.{Comes, Table, counts, table_at}
use Rattle.pages.specs.Snapshots.{IsBeside, Snapshot, kept_shot, page_of, shot}
use Rattle.pages.specs.Writing.{AreFree, AreUnnamed, IsOneOf}
use Rattle.pages.specs.Retiring.{IsCleared, KeepsWhatCounts, IsNewest, IsOver, Retires}
use Rattle.pages.specs.Resting.{IsShotAtRest}
use Rattle.pages.proofs.Newest.{newest_stands}
use Rattle.record_pages.specs.Tables.{record_names}
use Rattle.slot_store.specs.declared.pager.Pager.{Pager}
use Rattle.slot_store.specs.Areas.{layout_of}
use Rattle.slot_store.specs.Layout.{IsLaidOut, IsPut, laid}
use Rattle.slot_store.specs.Putting.{HasRested, KeepsRecord}
use Rattle.slot_store.specs.Pager.{Awaits, IsLaidFor, content, has_replaced, mark}
use Rattle.slot_store.specs.Store.{HasArea}
use Rattle.slot_store.proofs.Standing.{kept_recovered, kept_undamaged, laid_recovered}
use Rattle.slot_store.proofs.Puts.PlanFacts.{drops_distinct, drops_pages, pager_named}
use Rattle.slot_store.proofs.Outside.{self_outside}
use Rattle.slot_store.proofs.Puts.PutShots.{kept_open, laid_second, layout_sound, one_or_none, own_names}

-- where each crash that leaves Q tells that each leaves P
pub span_if : (a b : DiskState) (P Q : List ℕ → Type 0) → Span a b Q
    → ((c : List ℕ) → Q c → Span a b P) → Span a b P
span_if a b P Q span to = record {
  size = span.size;
  counts = span.counts;
  later = span.later;
  passes = span.passes;
  keeps = span.keeps;
  fates = span.fates;
  all = span.all;
  told = span.told;
  each = λ t c le left. ⊎_elim (λ was. inl was) (λ is. (to c is).each t c le left)
      (span.each t c le left);
  last = λ c left. ⊎_elim (λ was. inl was) (λ is. (to c is).last c left) (span.last c left);
}

module _ (pager : Pager) (start : DiskState) (awaits : Always (Awaits pager) start) where
  abbrev pub l : Layout
  l = layout_of pager.area

  abbrev pub now : Snapshot
  now = laid (mark pager) (content pager)

  abbrev pub dropped : List ℕ
  dropped = pager.draft.plan.dropped.items

  put : (c : List ℕ) → start.image c
      → IsPut pager.area (mark pager) (content pager) pager.replaced dropped c
  unfolding Awaits has_replaced
  put c left = awaits c left

  place : (mark pager).second ≡ pager.second
  unfolding mark
  place = refl

  -- with no record replaced nothing is left to retire
  pub alone : pager.replaced ≡ false → Always (HasRested pager pager start) start
  unfolding IsLaidFor
  alone none c left =
      let rests : IsLaidFor pager c = (put c left).alone none in (
        rests,
        laid_recovered pager c rests,
        (c, left, self_outside pager.area c),
      )

  -- ---- before

  current : (c : List ℕ) → start.image c → table_at l pager.second c ≡ now.table
  current c left = ap (λ k. table_at l k c) (sym place) ∙ (put c left).current

  pub newest : Always (IsNewest l pager.second) start
  newest c left = subst (λ k. Comes (table_at l (not k) c) (table_at l k c)) place
      (subst (λ t. Comes (table_at l (not (mark pager).second) c) t) (sym (put c left).current)
      (put c left).comes)

  unnamed : AreUnnamed record_names l dropped start
  unnamed j lt c left k table is_so =
      let e : counts pager.second (table_at l pager.second c) ≡ counts k table = sym
      (newest_stands l pager.second c (newest c left)) ∙ is_so in
      let same : table_at l pager.second c ≡ table = cc in
      subst (λ t. IsBeside record_names l (slice_index dropped j) t) (sym (current c left) ∙ same)
      ((put c left).beside j lt)

  pub free : start.size < 2 ^ 64 → HasArea pager.area start → AreFree record_names l dropped start
  free ends within = record {
    sound = layout_sound pager.area pager.lawful start.size ends within;
    pages = drops_pages pager;
    unnamed = unnamed;
  }

  -- an image tells that the dropped pages are beside the record's table
  pub over : (d : List ℕ) → start.image d
      → IsOver record_names l pager.second dropped now.table now.pages start
  over d entry = record {
    current = current;
    pages_are = λ c left. (put c left).pages;
    named = subst (All (IsPage l)) (sym (own_names pager)) (pager_named pager);
    beside = (put d entry).beside;
  }

  -- ---- meanwhile, and once it is done

  abbrev pub Placed : Snapshot
  Placed = record { second = pager.second; table = now.table; pages = now.pages }

  placed_is : Placed ≡ now
  placed_is = λ i. record {
    second = (sym place ∙ sym (laid_second (mark pager) (content pager))) i;
    table = now.table;
    pages = now.pages;
  }

  opened : (d : List ℕ) → start.image d → shot Placed ≡ kept_shot now
  opened d entry = ap shot placed_is ∙ sym (kept_open now (put d entry).comes.opened)

  kept : (c : List ℕ) → KeepsWhatCounts record_names l Placed start c → KeepsRecord pager start c
  kept c is =
      let same = is.same ∙ opened is.around.0 is.around.1 in (
        kept_recovered pager c same,
        is.around,
        kept_undamaged pager c same,
      )

  module _ (lawful : IsLawful start) (c : List ℕ)
      (cleared : IsCleared record_names l dropped Placed start c) where
    before : IsPut pager.area (mark pager) (content pager) pager.replaced dropped cleared.read
    before = put cleared.read (lawful.seen_now cleared.read cleared.told)

    blank : (m : ℕ) → IsPage l m → IsBeside record_names l m now.table
        → page_of l c m ≡ blank_page
    blank m is beside = ⊎_elim one
        (λ none. cleared.rest m is none ∙ ⊎_elim (λ j. absurd (none j.0 j.1 j.2)) (λ zeros. zeros)
        (before.blank m is beside))
        (one_or_none m dropped)
      where
        one : IsOneOf m dropped → page_of l c m ≡ blank_page
        one j = ap (page_of l c) j.2 ∙ cleared.blank (drops_distinct pager) j.0 j.1

    laid_out : IsLaidOut pager.area (mark pager) (content pager) c
    laid_out = subst (λ s. IsShotAtRest record_names l s c) placed_is
        (record { still = cleared.still; other = cleared.other; blank = blank })

    rests : IsLaidFor pager c
    unfolding IsLaidFor
    rests = laid_out

    rested : HasRested pager pager start c
    rested = (
      rests,
      laid_recovered pager c rests,
      cleared.around,
    )

  module _ {T : Type 0} (end : DiskState) (result : Result T Call)
      (span : Span start end (KeepsOutside l start))
      (retires : (table : Table) (pages : List (List ℕ))
      → IsOver record_names l pager.second dropped table pages start
      → Retires record_names l dropped
      (record { second = pager.second; table = table; pages = pages }) start end result) where
    by_image : (d : List ℕ) → start.image d
        → Retires record_names l dropped Placed start end result
    by_image d entry = retires now.table now.pages (over d entry)

    pub retire_whole : Span start end (KeepsRecord pager start)
    retire_whole = span_if start end (KeepsRecord pager start) (KeepsOutside l start) span
        (λ c around. widen start end (KeepsWhatCounts record_names l Placed start) (KeepsRecord pager start)
        kept (by_image around.0 around.1).any_moment)

  pub retire_done : {T : Type 0} (end : DiskState) (x : T)
      → Span start end (KeepsOutside l start)
      → ((table : Table) (pages : List (List ℕ))
      → IsOver record_names l pager.second dropped table pages start
      → Retires record_names l dropped
      (record { second = pager.second; table = table; pages = pages }) start end (Ok x))
      → IsLawful start → Always (HasRested pager pager start) end
  retire_done end x span retires lawful c left = ⊎_elim (λ entry. at c entry left)
      (λ around. at around.0 around.1 left) (span.last c left)
    where
      at : (d : List ℕ) → start.image d → end.image c → HasRested pager pager start c
      at d entry left = rested lawful c
          ((by_image end (Ok x) span retires d entry).done c left)
