-- The newer table was read, with the pages that it names.
use Rattle.std.proofs.Common.{◌≡◌, ◌≢◌, ℕ, ◌+◌, ◌-◌, ◌*◌, ◌≤◌, Bool, true, List, [], length, take, Option, Some, None, sym, subst, ◌∙◌, ap, arith}
use Rattle.std.specs.Prelude.{slice_index}
use Rattle.std.proofs.lemmas.List.{length-take-le}
use Rattle.dr_base.specs.declared.limits.TheConstants.{PAGE}
use Rattle.pages.specs.declared.layout.Layout.{Layout}
use Rattle.pages.specs.Snapshots.{kept_shot, shot, shot_of, snapshot}
use Rattle.pages.specs.Tables.{counts, is_open, open_table, tables_standing}
use Rattle.pages.proofs.Newest.{open_low, open_high}
use Rattle.record_pages.specs.declared.limits.TheConstants.{NAMED_LIMIT}
use Rattle.record_pages.specs.Pages.{pages_in}
use Rattle.record_pages.specs.Tables.{entry_fault, length_in, record_names, table_body}
use Rattle.paged_records.specs.Bounded.{Bounds}
use Rattle.paged_records.specs.declared.kept.Kept.{Kept}
use Rattle.paged_records.specs.declared.loading.Loaded.{Loaded}
use Rattle.paged_records.specs.Faults.{record_in}
use Rattle.slot_store.specs.declared.pager.Pager.{Pager}
use Rattle.slot_store.specs.Areas.{Area, bounds_of, layout_of}
use Rattle.slot_store.specs.Found.{HasReadContent}
use Rattle.slot_store.specs.Layout.{IsMarked, laid, table_for}
use Rattle.paged_records.specs.Loading.{IsLoaded, IsNamed, IsNamedRecord, pages_named}
use Rattle.slot_store.specs.Reading.{damaged, fault_in, judged, table_number, read_as, area_reading, reading_of}
use Rattle.slot_store.specs.Records.{shot_in}
use Rattle.slot_store.specs.Settling.{HasShot}
use Rattle.slot_store.specs.Pager.{content, mark}
use Rattle.slot_store.proofs.Laid.{laid_read}
use Rattle.paged_records.proofs.Printed.{AreBytes, sound, table_of}
use Rattle.slot_store.proofs.Wipings.Settled.{has_text, held}
use Rattle.slot_store.proofs.Standing.{pager_marked}

-- what was loaded within the bounds of an area
module _ (fault_at : List ℕ → Option ℕ) (area : Area) (b : Bounds) (body : List ℕ) (f g : Loaded) (bounds_are : b ≡ bounds_of area)
    (same : f ≡ g) where
  pub loaded_as : (l : Layout) (s : List ℕ) → l ≡ layout_of area → IsLoaded fault_at l b body f s
      → IsLoaded fault_at (layout_of area) (bounds_of area) body g s
  loaded_as l s layout_is is = subst (λ k. IsLoaded fault_at k (bounds_of area) body g s) layout_is
      (subst (λ x. IsLoaded fault_at l x body g s) bounds_are (subst (λ x. IsLoaded fault_at l b body x s) same is))

  pub named_as : IsNamedRecord fault_at b body f → IsNamedRecord fault_at (bounds_of area) body g
  named_as is = subst (λ x. IsNamedRecord fault_at x body g) bounds_are (subst (IsNamedRecord fault_at b body) same is)

-- a fault in it
pub damaged_newer : (fault_at : List ℕ → Option ℕ) (area : Area) (second : Bool) (body s : List ℕ) (slot at : ℕ)
    → tables_standing (layout_of area) s ≡ counts second (open_table body)
    → fault_in fault_at area body (pages_named (layout_of area) body s) ≡ Some at → slot ≡ table_number second
    → area_reading fault_at area s ≡ damaged slot at
unfolding area_reading snapshot
damaged_newer fault_at area second body s slot at stands is number =
    ap (λ o. read_as fault_at area (shot_of record_names (layout_of area) s o)) stands
    ∙ ap (λ f. judged second f (record_in body (pages_named (layout_of area) body s))) is
    ∙ ap (λ n. damaged n at) (sym number)

pub newer_entries : (fault_at : List ℕ → Option ℕ) (area : Area) (body : List ℕ) (kept : Kept) → IsNamed fault_at (bounds_of area) body kept
    → entry_fault 2 area.pages [] 6 kept.numbers.items ≡ None
newer_entries fault_at area body kept named =
    ap (entry_fault 2 area.pages [] 6) named.numbers ∙ (sound 2 area.pages area.most body named.lawful).entries

pub newer_turn : (body : List ℕ) → is_open (open_table body) ≡ true → (1 ≤ slice_index body 0) × (slice_index body 0 ≤ 3)
newer_turn body opened = (open_low (open_table body) opened, open_high (open_table body) opened)

-- who has read the record has read the pager's
pub newer_read : {R : Type 0} (has_read : R → List ℕ → Type 0) (old new : R) (body : List ℕ) (kept : Kept) (pager : Pager)
    → pager.turn ≡ slice_index body 0 → pager.kept ≡ kept → is_open (open_table body) ≡ true
    → has_read new (take kept.len kept.bytes.items) → HasReadContent has_read old new (content pager)
newer_read has_read old new body kept pager is_turn is_kept opened read =
    subst (HasReadContent has_read old new)
    (sym (has_text pager (λ zero. absurd (omega (arith, (newer_turn body opened).0, is_turn, zero)))))
    (subst (λ (k : Kept). has_read new (take k.len k.bytes.items)) (sym is_kept) read)

module _ (fault_at : List ℕ → Option ℕ) (area : Area) (second : Bool) (body : List ℕ) (kept : Kept) (pager : Pager)
    (is_area : pager.area ≡ area) (is_second : pager.second ≡ second) (is_turn : pager.turn ≡ slice_index body 0)
    (is_kept : pager.kept ≡ kept) (long : length body + 1 ≡ PAGE) (are : AreBytes body)
    (opened : is_open (open_table body) ≡ true) (named : IsNamed fault_at (bounds_of area) body kept) where
  pub read_turn : pager.turn ≢ 0
  read_turn zero = absurd (omega (arith, (newer_turn body opened).0, is_turn, zero))

  abbrev text : List ℕ
  text = take pager.kept.len pager.kept.bytes.items

  has : content pager ≡ Some text
  has = has_text pager read_turn

  marked : IsMarked pager.area (mark pager) text
  marked = pager_marked pager text has

  text_is : text ≡ take kept.len kept.bytes.items
  text_is = ap (λ (k : Kept). take k.len k.bytes.items) is_kept

  text_long : length_in body ≡ length text
  text_long = sym (ap (λ (l : List ℕ). length l) text_is
      ∙ length-take-le kept.len kept.bytes.items (omega (arith, kept.covers, kept.fits)) ∙ named.len)

  numbers : record_names body ≡ pager.kept.numbers.items
  numbers = sym (ap (λ (k : Kept). k.numbers.items) is_kept ∙ named.numbers)

  few : area.most ≤ NAMED_LIMIT
  few = omega (arith, pager.lawful.named, ap (λ (a : Area). a.most) is_area)

  turn : slice_index body 0 ≡ pager.turn
  turn = sym is_turn

  -- it is the table of the pager's record
  body_is : body ≡ table_for (mark pager) text
  unfolding mark
  body_is = table_of 2 area.pages area.most body few long are named.lawful
      ∙ (λ i. table_body (turn i) (text_long i) (numbers i) (PAGE - (6 + 2 * length (numbers i))))

  module _ (s : List ℕ) (stands : tables_standing (layout_of area) s ≡ counts second (open_table body))
      (pages : pages_named (layout_of area) body s ≡ pages_in (take kept.len kept.bytes.items)) where
    all_pages : pages_named (layout_of area) body s ≡ pages_in text
    all_pages = pages ∙ ap pages_in (sym text_is)

    which : second ≡ pager.second
    which = sym is_second

    snaps : shot (record { second = second; table = open_table body; pages = pages_named (layout_of area) body s })
        ≡ shot (laid (mark pager) (Some text))
    unfolding mark
    snaps = λ i. shot (record { second = which i; table = open_table (body_is i); pages = all_pages i })

    pub read_shown : HasShot pager s
    unfolding snapshot
    read_shown = ap (λ a. shot_in a s) is_area ∙ ap (shot_of record_names (layout_of area) s) stands ∙ snaps
        ∙ sym (held pager.area (mark pager) text marked) ∙ ap (λ o. kept_shot (laid (mark pager) o)) (sym has)

  none : fault_at text ≡ None
  none = ap fault_at text_is ∙ named.text

  pub newer_text : (other : List ℕ) → content pager ≡ Some other → fault_at other ≡ None
  newer_text other is = ap fault_at (inner other text (let e : Some other ≡ Some text = sym is ∙ has in e)) ∙ none
    where
      inner : (x y : List ℕ) → Some x ≡ Some y → x ≡ y
      inner x y h = cc

  pub newer_first : content pager ≡ None → (mark pager).second ≡ true
  newer_first none = absurd (let e : Some text ≡ None = sym has ∙ none in cc)

  pub newer_reading : (s : List ℕ) → HasShot pager s → area_reading fault_at area s ≡ reading_of (content pager)
  unfolding area_reading
  newer_reading s shown = sym (ap (λ a. area_reading fault_at a s) is_area) ∙ ap (read_as fault_at pager.area)
      (shown ∙ ap (λ o. kept_shot (laid (mark pager) o)) has ∙ held pager.area (mark pager) text marked)
      ∙ laid_read pager.area (mark pager) text pager.lawful marked fault_at none
      ∙ ap reading_of (sym has)
