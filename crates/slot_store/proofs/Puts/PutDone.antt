-- A put: what a crash leaves meanwhile, and what stands once it is done.
use Rattle.std.proofs.Common.{◌≡◌, ◌⊎◌, inl, inr, ⊎_elim, ℕ, true, false, List, Option, Some, None, length, refl, sym, ◌∙◌, ap, subst, arith}
use Rattle.std.specs.Prelude.{is_some, not, slice_index}
use Rattle.dr_base.specs.declared.limits.TheConstants.{PAGE}
use Rattle.dr_disk.specs.State.{DiskState}
use Rattle.dr_disk.specs.Spans.{Span}
use Rattle.dr_disk.proofs.Steps.{widen}
use Rattle.pages.specs.declared.layout.Layout.{Layout}
use Rattle.pages.specs.Layouts.{IsPage, blank_page}
use Rattle.pages.specs.Tables.{Comes, open_table, table_at, wiped}
use Rattle.pages.specs.Snapshots.{IsBeside, Snapshot, kept_shot, page_of, shot}
use Rattle.pages.specs.Writing.{IsOneOf}
use Rattle.pages.specs.Commits.{IsCommitted, IsOldOrNewShot as IsEither}
use Rattle.pages.proofs.Newest.{not_not}
use Rattle.record_pages.specs.Tables.{record_names}
use Rattle.slot_store.specs.declared.pager.Pager.{Pager}
use Rattle.slot_store.specs.Areas.{layout_of}
use Rattle.slot_store.specs.Layout.{IsLaidOut, IsPut, laid, table_for}
use Rattle.slot_store.specs.Putting.{HasPut}
use Rattle.slot_store.specs.Reading.{IsUndamaged}
use Rattle.slot_store.specs.Records.{stored_record, shot_in}
use Rattle.slot_store.specs.Stops.{wipes_of, writes_of}
use Rattle.slot_store.specs.Pager.{Awaits, content, has_replaced, mark}
use Rattle.slot_store.specs.Store.{IsOldOrNew}
use Rattle.slot_store.proofs.Puts.HasPlan.{AreOthers, fresh}
use Rattle.slot_store.proofs.Puts.PutShots.{kept_open, own_names}
use Rattle.slot_store.proofs.Puts.Putting.{Setting, comes, laid_out, new_names, new_place, next_open, planned, shot_new, shot_old}
use Rattle.slot_store.proofs.Standing.{kept_recovered, kept_undamaged}

module _ {old new : Pager} {text : List ℕ} {start : DiskState}
    (set : Setting old new text start) where
  abbrev l : Layout
  l = layout_of old.area

  abbrev was : Snapshot
  was = shot_old old

  abbrev next : Snapshot
  next = shot_new new text

  -- ---- meanwhile

  kept_new : (c : List ℕ) → shot_in old.area c ≡ shot next
      → shot_in new.area c ≡ kept_shot (laid (mark new) (content new))
  kept_new c is = ap (λ a. shot_in a c) set.staged.next.area ∙ is
      ∙ sym (kept_open next (next_open set))
      ∙ ap (λ t. kept_shot (laid (mark new) t)) (sym set.staged.holds)

  pub new_recovered : (c : List ℕ) → shot_in old.area c ≡ shot next
      → stored_record old.area c ≡ Some text
  new_recovered c is = ap (λ a. stored_record a c) (sym set.staged.next.area)
      ∙ kept_recovered new c (kept_new c is) ∙ set.staged.holds

  new_undamaged : (c : List ℕ) → shot_in old.area c ≡ shot next → IsUndamaged old.area c
  new_undamaged c is = subst (λ a. IsUndamaged a c) set.staged.next.area
      (kept_undamaged new c (kept_new c is))

  either : (c : List ℕ) → IsEither record_names l (kept_shot was) (shot next) start c
      → IsOldOrNew start old.area (content old) (Some text) c
  either c is = record {
    either = ⊎_elim (λ old_one. inl (kept_recovered old c old_one))
        (λ new_one. inr (new_recovered c new_one)) is.either;
    undamaged = ⊎_elim (λ old_one. kept_undamaged old c old_one)
        (λ new_one. new_undamaged c new_one) is.either;
    frame = is.around;
  }

  pub put_whole : (end : DiskState)
      → Span start end (IsEither record_names l (kept_shot was) (shot next) start)
      → Span start end (IsOldOrNew start old.area (content old) (Some text))
  put_whole end span = widen start end (IsEither record_names l (kept_shot was) (shot next) start)
      (IsOldOrNew start old.area (content old) (Some text)) either span

  -- ---- once it is done

  module _ (c : List ℕ) (done : IsCommitted record_names l (fresh new) was next start c) where
    other_table : table_at l (not (mark new).second) c ≡ was.table
    other_table = ap (λ k. table_at l k c) (ap not (sym (new_place set)) ∙ not_not was.second)
        ∙ done.old

    blank : (m : ℕ) → IsPage l m → IsBeside record_names l m next.table
        → IsOneOf m new.draft.plan.dropped.items ⊎ (page_of l c m ≡ blank_page)
    blank m is beside = ⊎_elim (λ one. inl one)
        (λ both. inr (done.rest m is both.1 ∙ (laid_out set done.read
        (set.lawful.seen_now done.read done.told)).blank m is
        (subst (AreOthers old.area m) (sym (own_names old)) both.0)))
        ((planned set).covers m (subst (AreOthers old.area m) (new_names set) beside))

    none_dropped : content old ≡ None → length new.draft.plan.dropped.items ≡ 0
    unfolding writes_of
    none_dropped none = (planned set).wipes ∙ ap (λ old. wipes_of old (Some text)) none

    alone : is_some (content old) ≡ false → IsLaidOut old.area (mark new) (Some text) c
    alone is = first (no_content (content old) is)
      where
        no_content : (o : Option (List ℕ)) → is_some o ≡ false → o ≡ None
        no_content None is = refl
        no_content (Some t) is = absurd (let e : true ≡ false = is in cc)

        first : content old ≡ None → IsLaidOut old.area (mark new) (Some text) c
        first none =
            let other : table_at l (not (mark new).second) c ≡ wiped PAGE = other_table
            ∙ ap (λ o. (laid (mark old) o).table) none in
            record {
              still = record {
                current = done.current;
                pages = done.pages;
                shut = ap (λ t. t.gate) other;
              };
              other = other;
              blank = λ m is beside. ⊎_elim
                  (λ one. absurd (omega (arith, one.1, none_dropped none)))
                  (λ zeros. zeros) (blank m is beside);
            }

    is_put : IsPut old.area (mark new) (Some text) (is_some (content old))
        new.draft.plan.dropped.items c
    is_put = record {
      current = done.current;
      pages = done.pages;
      comes = subst (λ t. Comes t (open_table (table_for (mark new) text))) (sym other_table)
          (comes set);
      beside = λ j lt. subst (AreOthers old.area (slice_index new.draft.plan.dropped.items j))
          (sym (new_names set)) ((planned set).drops_beside j lt);
      blank = blank;
      alone = alone;
    }

    awaits : Awaits new c
    unfolding Awaits
    awaits =
        subst (λ a. IsPut a (mark new) (content new) (has_replaced new)
        new.draft.plan.dropped.items c) (sym set.staged.next.area)
        (subst (λ t. IsPut old.area (mark new) t (has_replaced new) new.draft.plan.dropped.items c)
        (sym set.staged.holds)
        (subst (λ r. IsPut old.area (mark new) (Some text) r new.draft.plan.dropped.items c)
        (sym set.staged.replaced) is_put))

    pub has_put : HasPut old new text start c
    has_put = (
      awaits,
      ap (λ a. stored_record a c) set.staged.next.area ∙ new_recovered c done.same,
      done.around,
    )
