-- A retire: what it begins with, and what it leaves.
use Rattle.std.proofs.Common.{◌≡◌, ◌≢◌, inl, ⊎_elim, ℕ, ◌+◌, ◌*◌, ◌^◌, ◌<◌, false, List, Result, Ok, sym, ◌∙◌, ap, subst, arith}
use Rattle.std.specs.Prelude.{All, if◌then◌else◌, not, slice_index}
use Rattle.std.proofs.lemmas.List.Elements.{All-from_get_or}
use Rattle.dr_disk.specs.declared.call.Call.{Call}
use Rattle.dr_disk.specs.State.{Always, DiskState, IsLawful}
use Rattle.dr_disk.specs.Spans.{Span}
use Rattle.dr_disk.proofs.Steps.{widen}
use Rattle.pages.specs.declared.layout.Layout.{Layout}
use Rattle.pages.specs.Around.{KeepsOutside}
use Rattle.pages.specs.Layouts.{IsPage, blank_page}
use Rattle.pages.specs.Tables.{Comes, Table, counts, table_at}
use Rattle.pages.specs.Snapshots.{IsBeside, Snapshot, kept_shot, no_shot, page_of, shot}
use Rattle.pages.specs.Writing.{AreDistinct, AreFree, AreUnnamed, IsNoneOf}
use Rattle.pages.specs.Retiring.{IsCleared, IsNewest, IsOver, KeepsWhatCounts, Retires}
use Rattle.pages.proofs.Around.{same_outside}
use Rattle.pages.proofs.Newest.{newest_stands}
use Rattle.pages.proofs.Shots.{shot_still}
use Rattle.record_pages.proofs.LawfulEntries.{AreEntries, entries_distinct, entries_lawful}
use Rattle.book_store.proofs.Books.Apart.{one_or_none, rows_once, shifted_all}
use Rattle.book_store.proofs.Books.Laying.{are_pages, beside, none_by_row}
use Rattle.book_store.proofs.Books.Readings.{has}
use Rattle.book_store.proofs.Books.Spare.{blank_beside}
use Rattle.book_store.proofs.Books.Zeros.{table_body}
use Rattle.book_store.proofs.Names.{all_rows}
use Rattle.book_store.proofs.Sound.{book_sound}
use Rattle.book_store.specs.AtRest.{IsBookAtRest, IsBookMarked, laid_book}
use Rattle.book_store.specs.Committing.{HasRetired, KeepsRows}
use Rattle.book_store.specs.Layout.{HasBook, book_layout}
use Rattle.book_store.specs.Rows.{book_names}
use Rattle.book_store.specs.Staging.{AwaitsRetire, IsCommittedBook, IsNoneIn, Rests}
use Rattle.book_store.specs.Store.{BookStore, IsLawfulStore, all_drops, drops_at, retired}
use Rattle.book_store.specs.declared.layout.TheConstants.{ROW_PAGES}

-- where each crash that leaves Q tells that each leaves P
span_if : (a b : DiskState) (P Q : List ℕ → Type 0) → Span a b Q
    → ((c : List ℕ) → Q c → Span a b P) → Span a b P
span_if a b P Q span to = record {
  size = span.size;
  counts = span.counts;
  later = span.later;
  passes = span.passes;
  keeps = span.keeps;
  fates = span.fates;
  all = span.all;
  told = span.told;
  each = λ t c le left. ⊎_elim (λ was. inl was) (λ is. (to c is).each t c le left) (span.each t c le left);
  last = λ c left. ⊎_elim (λ was. inl was) (λ is. (to c is).last c left) (span.last c left);
}

module _ (store : BookStore) (lawful : IsLawfulStore store) (start : DiskState) (awaits : Always (AwaitsRetire store) start) where
  abbrev pub l : Layout
  l = book_layout store.rows

  abbrev pub now : Snapshot
  now = laid_book store.mark store.held

  abbrev pub gone : List ℕ
  gone = all_drops store

  put : (c : List ℕ) → start.image c → IsCommittedBook store c
  unfolding AwaitsRetire
  put c left = awaits c left

  current : (c : List ℕ) → start.image c → table_at l store.mark.second c ≡ now.table
  current c left = (put c left).current

  -- ---- the dropped pages

  drops_are : (r : ℕ) → AreEntries 0 ROW_PAGES (drops_at store r)
  drops_are r = entries_lawful 0 ROW_PAGES (drops_at store r) (lawful.drops r)

  gone_pages : All (IsPage l) gone
  gone_pages = all_rows (IsPage l) store.rows 0 (drops_at store)
      (λ s le lt. shifted_all (IsPage l) s (drops_at store s)
      (λ j below. (omega arith, omega (arith, lt, ((drops_are s).within j 0 below).1))))

  distinct : AreDistinct gone
  distinct = entries_distinct 0 (ROW_PAGES * store.rows) gone
      (record { within = gone_pages; once = rows_once store.rows 0 (drops_at store) drops_are })

  gone_beside : IsBookMarked store.rows store.mark store.held → All (λ m. IsBeside book_names l m now.table) gone
  gone_beside marked = all_rows (λ m. IsBeside book_names l m now.table) store.rows 0 (drops_at store)
      (λ s le lt. shifted_all (λ m. IsBeside book_names l m now.table) s (drops_at store s)
      (λ j below. subst (λ (b : List ℕ). All (λ m. IsPage l m × (m ≢ ROW_PAGES * s + slice_index (drops_at store s) j)) (book_names b))
      (sym (table_body store.rows store.mark store.held marked))
      (beside store.rows store.mark.turn store.held store.mark.numbers marked.marks s (slice_index (drops_at store s) j)
      ((drops_are s).within j 0 below).1 (lawful.apart s j 0 below))))

  -- ---- before

  pub newest : Always (IsNewest l store.mark.second) start
  newest c left = subst (λ t. Comes (table_at l (not store.mark.second) c) t) (sym (current c left)) (put c left).comes

  unnamed : AreUnnamed book_names l gone start
  unnamed j lt c left k table is_so =
      let e : counts store.mark.second (table_at l store.mark.second c) ≡ counts k table = sym
      (newest_stands l store.mark.second c (newest c left)) ∙ is_so in
      let same : table_at l store.mark.second c ≡ table = cc in
      subst (λ t. IsBeside book_names l (slice_index gone j) t) (sym (current c left) ∙ same)
      (gone_beside (put c left).marked j 0 lt)

  pub free : start.size < 2 ^ 64 → HasBook store.rows start → AreFree book_names l gone start
  free ends within = record {
    sound = book_sound store.rows start.size ends within;
    pages = λ j lt. gone_pages j 0 lt;
    unnamed = unnamed;
  }

  -- an image tells that the dropped pages are beside the table
  over : (d : List ℕ) → start.image d → IsOver book_names l store.mark.second gone now.table now.pages start
  over d entry = record {
    current = current;
    pages_are = λ c left. (put c left).pages;
    named = subst (λ (b : List ℕ). All (IsPage l) (book_names b)) (sym (table_body store.rows store.mark store.held (put d entry).marked))
        (are_pages store.rows store.mark.turn store.held store.mark.numbers (put d entry).marked.marks);
    beside = λ j lt. gone_beside (put d entry).marked j 0 lt;
  }

  -- ---- meanwhile, and once it is done

  now_kept : (d : List ℕ) → start.image d → kept_shot now ≡ shot now
  now_kept d entry = ap (λ o. if o then shot now else no_shot) (put d entry).comes.opened

  kept : (c : List ℕ) → KeepsWhatCounts book_names l now start c → KeepsRows store.rows store.held start c
  kept c is = record {
    has = has store.rows store.mark store.held (put is.around.0 is.around.1).marked c
        (is.same ∙ sym (now_kept is.around.0 is.around.1));
    frame = is.around;
  }

  -- with no table replaced nothing is left to retire
  pub alone : store.replaced ≡ false → Always (HasRetired (retired store) start) start
  unfolding Rests
  alone none c left =
      let rests = (put c left).alone none in (
        rests,
        record {
          has = has store.rows store.mark store.held (put c left).marked c
              (shot_still book_names l c now rests.laid_out.still);
          frame = (c, left, same_outside l c);
        },
      )

  module _ (of : IsLawful start) (c : List ℕ) (cleared : IsCleared book_names l gone now start c) where
    before : IsCommittedBook store cleared.read
    before = put cleared.read (of.seen_now cleared.read cleared.told)

    none_dropped : (m r p : ℕ) → IsNoneOf m gone → r < store.rows → m ≡ ROW_PAGES * r + p → IsNoneIn p (drops_at store r)
    none_dropped m r p none lt split = none_by_row p store.rows 0 (drops_at store) r (omega arith) (omega (arith, lt))
        (All-from_get_or (λ n. n ≢ ROW_PAGES * r + p) gone 0 (λ i in_i e. none i in_i (split ∙ sym e)))

    blank : (m : ℕ) → IsPage l m → IsBeside book_names l m now.table → page_of l c m ≡ blank_page
    blank m is beside = ⊎_elim
        (λ one. ap (page_of l c) one.2 ∙ cleared.blank distinct one.0 one.1)
        (λ none. cleared.rest m is none
        ∙ blank_beside store lawful.few before.marked cleared.read before.spare m is beside
        (λ r p lt split. none_dropped m r p none lt split))
        (one_or_none m gone)

    rests : IsBookAtRest store.rows store.mark store.held c
    rests = record {
      laid_out = record { still = cleared.still; other = cleared.other; blank = blank };
      marked = before.marked;
    }

    has_retired : HasRetired (retired store) start c
    unfolding Rests
    has_retired = (
      rests,
      record {
        has = has store.rows store.mark store.held before.marked c (shot_still book_names l c now cleared.still);
        frame = cleared.around;
      },
    )

  module _ {T : Type 0} (end : DiskState) (result : Result T Call) (span : Span start end (KeepsOutside l start))
      (retires : (table : Table) (pages : List (List ℕ))
      → IsOver book_names l store.mark.second gone table pages start
      → Retires book_names l gone (record { second = store.mark.second; table = table; pages = pages }) start end result) where
    by_image : (d : List ℕ) → start.image d → Retires book_names l gone now start end result
    by_image d entry = retires now.table now.pages (over d entry)

    pub retire_whole : Span start end (KeepsRows store.rows store.held start)
    retire_whole = span_if start end (KeepsRows store.rows store.held start) (KeepsOutside l start) span
        (λ c around. widen start end (KeepsWhatCounts book_names l now start) (KeepsRows store.rows store.held start)
        kept (by_image around.0 around.1).any_moment)

  pub retire_done : {T : Type 0} (end : DiskState) (x : T) → Span start end (KeepsOutside l start)
      → ((table : Table) (pages : List (List ℕ))
      → IsOver book_names l store.mark.second gone table pages start
      → Retires book_names l gone (record { second = store.mark.second; table = table; pages = pages }) start end (Ok x))
      → IsLawful start → Always (HasRetired (retired store) start) end
  retire_done end x span retires of c left = ⊎_elim (λ entry. at c entry left) (λ around. at around.0 around.1 left) (span.last c left)
    where
      at : (d : List ℕ) → start.image d → end.image c → HasRetired (retired store) start c
      at d entry left = has_retired of c ((by_image end (Ok x) span retires d entry).done c left)
