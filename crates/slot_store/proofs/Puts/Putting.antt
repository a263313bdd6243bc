-- A put: what it begins with.
use Rattle.std.proofs.Common.{◌≡◌, ◌≢◌, ℕ, ◌^◌, ◌<◌, true, List, [], ◌∷◌, Option, Some, None, length, map, refl, sym, ◌∙◌, ap, subst}
use Rattle.std.specs.Prelude.{All, not, slice_index}
use Rattle.std.proofs.lemmas.List.Elements.{All-head, All-tail}
use Rattle.dr_disk.specs.State.{Always, DiskState, IsLawful}
use Rattle.pages.specs.declared.layout.Layout.{Layout}
use Rattle.pages.specs.Layouts.{IsPage}
use Rattle.pages.specs.Tables.{Comes, is_open, open_table}
use Rattle.pages.specs.Snapshots.{IsBeside, Snapshot, page_of}
use Rattle.pages.specs.Writing.{AreToWrite, AreUnnamed, AreWritten, piece_at}
use Rattle.pages.specs.Commits.{IsPlan, next_shot}
use Rattle.record_pages.specs.Pages.{pages_in}
use Rattle.record_pages.specs.Tables.{record_names}
use Rattle.slot_store.specs.declared.pager.Pager.{Pager}
use Rattle.slot_store.specs.Areas.{Fits, layout_of}
use Rattle.slot_store.specs.Layout.{IsLaidOut, IsMarked, Mark, laid, pages_held, table_for}
use Rattle.slot_store.specs.Putting.{IsStaged}
use Rattle.slot_store.specs.Pager.{IsLaidFor, content, mark}
use Rattle.slot_store.specs.Store.{HasArea}
use Rattle.slot_store.proofs.Puts.HasPlan.{AreOthers, HasPlan, fresh}
use Rattle.slot_store.proofs.Laid.{laid_names, laid_open}
use Rattle.slot_store.proofs.Puts.PlanFacts.{plans, pager_named}
use Rattle.slot_store.proofs.Puts.PutShots.{comes_next, laid_second, layout_sound, own_names, still_unnamed}
use Rattle.slot_store.proofs.Standing.{pager_marked}

-- a text that was staged, over a disk that rests
pub record Setting (old new : Pager) (text : List ℕ) (start : DiskState) : Type 0 where
  pub staged : IsStaged old new text
  pub fits : Fits old.area text
  pub ends : start.size < 2 ^ 64
  pub within : HasArea old.area start
  pub lawful : IsLawful start
  pub rests : Always (IsLaidFor old) start

-- the old pager's snapshot, and the one that is to come
abbrev pub shot_old : Pager → Snapshot
shot_old old = laid (mark old) (content old)

abbrev pub shot_new : Pager → List ℕ → Snapshot
shot_new new text = laid (mark new) (Some text)

module _ {old new : Pager} {text : List ℕ} {start : DiskState}
    (set : Setting old new text start) where
  abbrev l : Layout
  l = layout_of old.area

  abbrev was : Snapshot
  was = shot_old old

  abbrev next : Snapshot
  next = shot_new new text

  abbrev content_at : ℕ → List ℕ
  content_at = piece_at new.kept.bytes.items new.draft.plan.places.items

  pub planned : HasPlan old new text
  planned = plans old new text set.staged set.fits

  marked : IsMarked old.area (mark new) text
  marked = subst (λ a. IsMarked a (mark new) text) set.staged.next.area
      (pager_marked new text set.staged.holds)

  pub next_open : is_open next.table ≡ true
  next_open = laid_open old.area (mark new) text marked

  pub laid_out : (c : List ℕ) → start.image c → IsLaidOut old.area (mark old) (content old) c
  unfolding IsLaidFor
  laid_out c left = set.rests c left

  pub new_names : record_names (table_for (mark new) text) ≡ new.kept.numbers.items
  unfolding mark
  new_names = laid_names old.area (mark new) text old.lawful marked

  was_place : was.second ≡ old.second
  unfolding mark
  was_place = laid_second (mark old) (content old)

  pub new_place : not was.second ≡ (mark new).second
  new_place = ap not (laid_second (mark old) (content old))
      ∙ sym (ap (λ (m : Mark). m.second) set.staged.next.mark)

  pub next_is : next_shot was (table_for (mark new) text) (pages_in text) ≡ next
  next_is = λ i. record {
    second = new_place i;
    table = open_table (table_for (mark new) text);
    pages = pages_in text;
  }

  beside_old : (j : ℕ) → j < length (fresh new)
      → IsBeside record_names l (slice_index (fresh new) j) was.table
  beside_old j lt = subst (AreOthers old.area (slice_index (fresh new) j)) (sym (own_names old))
      (planned.beside j lt)

  unnamed : AreUnnamed record_names l (fresh new) start
  unnamed j lt c left = still_unnamed record_names l was c (slice_index (fresh new) j)
      (laid_out c left).still (beside_old j lt)

  pub to_write : AreToWrite record_names l (fresh new) new.draft.plan.places.items
      new.kept.bytes.items start
  to_write = record {
    free = record {
      sound = layout_sound old.area old.lawful start.size set.ends set.within;
      pages = planned.pages;
      unnamed = unnamed;
    };
    pieces = planned.pieces;
  }

  pub comes : Comes was.table (open_table (table_for (mark new) text))
  comes = record {
    opened = next_open;
    next = λ low high. comes_next (mark old) (mark new) (content old) text
        (ap (λ (m : Mark). m.turn) set.staged.next.mark) low;
  }

  -- the pages that stay
  old_pages : (c : List ℕ) → start.image c
      → map (page_of l c) old.kept.numbers.items ≡ pages_held (content old)
  old_pages c left = ap (λ (ns : List ℕ). map (page_of l c) ns) (sym (own_names old))
      ∙ (laid_out c left).still.pages ∙ held (content old)
    where
      held : (text : Option (List ℕ)) → (laid (mark old) text).pages ≡ pages_held text
      held None = refl
      held (Some text) = refl

  pages_next : (s : List ℕ) → AreWritten l (fresh new) content_at (length (fresh new)) start s
      → map (page_of l s) (record_names (table_for (mark new) text)) ≡ pages_in text
  pages_next s written = ap (λ (ns : List ℕ). map (page_of l s) ns) new_names
      ∙ planned.holds (page_of l s)
      (kept old.kept.numbers.items (pager_named old) (λ j lt. planned.beside j lt)
      ∙ old_pages written.read (set.lawful.seen_now written.read written.told))
      (λ j lt. written.written planned.distinct j lt)
    where
      kept : (ns : List ℕ) → All (IsPage l) ns
          → ((j : ℕ) → j < length (fresh new) → AreOthers old.area (slice_index (fresh new) j) ns)
          → map (page_of l s) ns ≡ map (page_of l written.read) ns
      kept [] all others = refl
      kept (n ∷ ns) all others =
          ap (λ p. p ∷ map (page_of l s) ns) (written.others n (All-head (IsPage l) n ns all)
          (λ j lt. (All-head (λ m. IsPage l m × (m ≢ slice_index (fresh new) j)) n ns
          (others j lt)).1))
          ∙ ap (λ ps. page_of l written.read n ∷ ps) (kept ns (All-tail (IsPage l) n ns all)
          (λ j lt. All-tail (λ m. IsPage l m × (m ≢ slice_index (fresh new) j)) n ns (others j lt)))

  pub plan : IsPlan record_names l old.second (fresh new) content_at (table_for (mark new) text) was
      (pages_in text) start
  plan = record {
    place = was_place;
    still = λ c left. (laid_out c left).still;
    beside = beside_old;
    comes = comes;
    was_named = subst (All (IsPage l)) (sym (own_names old)) (pager_named old);
    named = subst (All (IsPage l)) (sym new_names) planned.named;
    holds = pages_next;
  }
