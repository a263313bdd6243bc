-- What bytes stand for on which a store rests.
use Rattle.std.proofs.Common.{◌≡◌, ℕ, Bool, true, false, List, length, take, Option, Some, None, refl, sym, ◌∙◌, ap, subst, arith}
use Rattle.std.specs.Prelude.{if◌then◌else◌, ◌==◌}
use Rattle.std.proofs.lemmas.Bool.Decides.{nat_tests}
use Rattle.std.proofs.lemmas.List.{length-take-le}
use Rattle.pages.specs.Snapshots.{kept_shot}
use Rattle.pages.proofs.Shots.{shot_still}
use Rattle.record_pages.specs.Pages.{page_count}
use Rattle.record_pages.specs.Tables.{record_names}
use Rattle.paged_records.proofs.Texts.{text_fits}
use Rattle.paged_records.proofs.Paging.{each_of}
use Rattle.slot_store.specs.declared.pager.Pager.{Pager}
use Rattle.slot_store.specs.Areas.{Area, IsArea, bounds_of, layout_of}
use Rattle.slot_store.specs.Layout.{IsLaidOut, IsMarked, Mark, laid}
use Rattle.slot_store.specs.Reading.{IsUndamaged, OpensAs, read_as, area_reading}
use Rattle.slot_store.specs.Records.{stored_record, shot_in, record_shown}
use Rattle.slot_store.specs.Pager.{IsLaidFor, content, mark, store_seen}
use Rattle.slot_store.specs.Store.{Rests, SlotStore}
use Rattle.slot_store.proofs.Laid.{laid_kept, laid_read, laid_shown}

-- ---- bytes whose shot is that of a record that is laid out, or of none

module _ (area : Area) (mark : Mark) (text : Option (List ℕ)) (lawful : IsArea area)
    (marked : (kept : List ℕ) → text ≡ Some kept → IsMarked area mark kept) where
  shown_as : (o : Option (List ℕ)) → text ≡ o → record_shown area (kept_shot (laid mark o)) ≡ o
  shown_as None is = refl
  shown_as (Some kept) is =
      ap (record_shown area) (laid_kept area mark kept lawful (marked kept is)) ∙ laid_shown area mark kept lawful (marked kept is)

  opens_as : (o : Option (List ℕ)) → text ≡ o → (c : List ℕ) → shot_in area c ≡ kept_shot (laid mark o) → OpensAs area o c
  unfolding area_reading
  opens_as None is c same = λ fault_at. ap (read_as fault_at area) same
  opens_as (Some kept) is c same = λ fault_at none.
      ap (read_as fault_at area) (same ∙ laid_kept area mark kept lawful (marked kept is))
      ∙ laid_read area mark kept lawful (marked kept is) fault_at none

  pub shot_recovered : (c : List ℕ) → shot_in area c ≡ kept_shot (laid mark text) → stored_record area c ≡ text
  unfolding stored_record
  shot_recovered c is = ap (record_shown area) is ∙ shown_as text refl

  pub shot_undamaged : (c : List ℕ) → shot_in area c ≡ kept_shot (laid mark text) → IsUndamaged area c
  shot_undamaged c is = subst (λ t. OpensAs area t c) (sym (shot_recovered c is)) (opens_as text refl c is)

pub rests_shot : (area : Area) (mark : Mark) (text : Option (List ℕ)) (c : List ℕ) → IsLaidOut area mark text c
    → shot_in area c ≡ kept_shot (laid mark text)
rests_shot area mark text c rests = shot_still record_names (layout_of area) c (laid mark text) rests.still

-- ---- what callers see at rest

module _ (store : SlotStore) (c : List ℕ) (rests : Rests store c) where
  pub rests_recovered : stored_record store.area c ≡ store.content
  unfolding Rests
  rests_recovered = shot_recovered store.area store.mark store.content rests.0 rests.1.marked c
      (rests_shot store.area store.mark store.content c rests.1.laid_out)

  pub rests_undamaged : IsUndamaged store.area c
  unfolding Rests
  rests_undamaged = shot_undamaged store.area store.mark store.content rests.0 rests.1.marked c
      (rests_shot store.area store.mark store.content c rests.1.laid_out)

-- ---- a pager's record

module _ (pager : Pager) where
  abbrev all : List ℕ
  all = pager.kept.bytes.items

  marked_as : (text : List ℕ) → (none : Bool) → (pager.turn == 0) ≡ none
      → (if none then None else Some (take pager.kept.len all)) ≡ Some text → IsMarked pager.area (mark pager) text
  unfolding mark
  marked_as text true is_none is = absurd (let e : None ≡ Some text = is in cc)
  marked_as text false is_some is =
      let same : take pager.kept.len all ≡ text = cc in
      let long : length text ≡ pager.kept.len =
      ap (λ (l : List ℕ). length l) (sym same) ∙ length-take-le pager.kept.len all (omega (arith, pager.kept.covers, pager.kept.fits)) in
      record {
        low = let e = is_some in grind (arith, nat_tests);
        high = pager.turns;
        fits = text_fits (bounds_of pager.area) text (omega (arith, long, pager.few));
        each = each_of pager.kept ∙ ap page_count (sym long);
        entries = pager.entries;
      }

  -- it is marked
  pub pager_marked : (text : List ℕ) → content pager ≡ Some text → IsMarked pager.area (mark pager) text
  unfolding content
  pager_marked text is = marked_as text (pager.turn == 0) refl is

  pub kept_recovered : (c : List ℕ) → shot_in pager.area c ≡ kept_shot (laid (mark pager) (content pager))
      → stored_record pager.area c ≡ content pager
  kept_recovered = shot_recovered pager.area (mark pager) (content pager) pager.lawful pager_marked

  pub kept_undamaged : (c : List ℕ) → shot_in pager.area c ≡ kept_shot (laid (mark pager) (content pager))
      → IsUndamaged pager.area c
  kept_undamaged = shot_undamaged pager.area (mark pager) (content pager) pager.lawful pager_marked

  pub laid_recovered : (c : List ℕ) → IsLaidFor pager c → stored_record pager.area c ≡ content pager
  unfolding IsLaidFor
  laid_recovered c rests = kept_recovered c (rests_shot pager.area (mark pager) (content pager) c rests)

  -- what is at rest for it is at rest for the store that callers see
  pub rests_seen : (c : List ℕ) → IsLaidFor pager c → Rests (store_seen pager) c
  unfolding IsLaidFor Rests
  rests_seen c rests = (pager.lawful, record { laid_out = rests; marked = pager_marked })

  pub laid_as_seen : (c : List ℕ) → Rests (store_seen pager) c → IsLaidFor pager c
  unfolding IsLaidFor Rests
  laid_as_seen c rests = rests.1.laid_out
