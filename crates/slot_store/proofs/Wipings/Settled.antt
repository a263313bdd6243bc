-- What a pager with a record rests on, once its area was tidied.
use Rattle.std.proofs.Common.{◌≡◌, ◌≢◌, ℕ, Bool, true, false, List, take, map, get_or, Option, Some, None, refl, sym, ◌∙◌, ap, subst, arith, if◌then◌else◌}
use Rattle.std.specs.Prelude.{All, not, ◌==◌}
use Rattle.std.proofs.lemmas.Bool.Decides.{nat_tests}
use Rattle.std.proofs.lemmas.List.Elements.{All-from_get_or, All-get_or}
use Rattle.dr_disk.specs.State.{DiskState, OnSeen}
use Rattle.pages.specs.declared.layout.Layout.{Layout}
use Rattle.pages.specs.declared.layout.TheConstants.{OPEN}
use Rattle.pages.specs.Layouts.{IsPage, blank_page}
use Rattle.pages.specs.Tables.{Table, counts, is_open, open_table, tables_standing, table_at}
use Rattle.pages.specs.Snapshots.{IsBeside, IsUnnamed, kept_shot, no_shot, page_of, shot, snapshot}
use Rattle.pages.specs.Resting.{IsShotAtRest as AreAtRest}
use Rattle.pages.specs.Tidying.{AreNamed, IsMute, IsTidied}
use Rattle.pages.proofs.Newest.{not_not}
use Rattle.record_pages.specs.Pages.{pages_in}
use Rattle.record_pages.specs.Tables.{record_names}
use Rattle.slot_store.specs.declared.pager.Pager.{Pager}
use Rattle.slot_store.specs.Areas.{Area, layout_of}
use Rattle.slot_store.specs.Layout.{IsMarked, Mark, laid, table_for}
use Rattle.slot_store.specs.Settling.{HasShot}
use Rattle.slot_store.specs.Pager.{IsLaidFor, content, mark}
use Rattle.slot_store.proofs.Entries.{entries_within}
use Rattle.slot_store.proofs.Laid.{laid_names}
use Rattle.slot_store.proofs.Standing.{pager_marked}
use Rattle.slot_store.proofs.Wipings.Marks.{AreMarked, among_at, beside_unmarked, same_map, unmarked_beside}
use Rattle.pages.proofs.Standings.{current, mute_beside, open_by_turn, shot_back}

pub has_text : (pager : Pager) → pager.turn ≢ 0 → content pager ≡ Some (take pager.kept.len pager.kept.bytes.items)
unfolding content
has_text pager turn = ap (λ t. if t then None else Some (take pager.kept.len pager.kept.bytes.items))
    (let e : (pager.turn == 0) ≡ false = grind (arith, nat_tests) in e)

pub has_none : (pager : Pager) → pager.turn ≡ 0 → content pager ≡ None
unfolding content
has_none pager turn = ap (λ t. if t then None else Some (take pager.kept.len pager.kept.bytes.items))
    (let e : (pager.turn == 0) ≡ true = grind (arith, nat_tests) in e)

pub laid_open : (area : Area) (mark : Mark) (text : List ℕ) → IsMarked area mark text
    → is_open (open_table (table_for mark text)) ≡ true
laid_open area mark text marked = open_by_turn (open_table (table_for mark text)) refl marked.low marked.high

pub held : (area : Area) (mark : Mark) (text : List ℕ) → IsMarked area mark text
    → kept_shot (laid mark (Some text)) ≡ shot (laid mark (Some text))
held area mark text marked =
    ap (λ o. if o then shot (laid mark (Some text)) else no_shot) (laid_open area mark text marked)

-- with what it has, or with nothing
module _ (pager : Pager) (o : Option (List ℕ)) (has : content pager ≡ o) (c : List ℕ) where
  pub rests_of : AreAtRest record_names (layout_of pager.area) (laid (mark pager) o) c → IsLaidFor pager c
  unfolding IsLaidFor
  rests_of rests =
      subst (λ p. AreAtRest record_names (layout_of pager.area) (laid (mark pager) p) c) (sym has) rests

  pub rests_as : IsLaidFor pager c → AreAtRest record_names (layout_of pager.area) (laid (mark pager) o) c
  unfolding IsLaidFor
  rests_as rests = subst (λ p. AreAtRest record_names (layout_of pager.area) (laid (mark pager) p) c) has rests

module _ (pager : Pager) (text : List ℕ) (has : content pager ≡ Some text) where
  l : Layout
  l = layout_of pager.area

  table : Table
  table = open_table (table_for (mark pager) text)

  marked : IsMarked pager.area (mark pager) text
  marked = pager_marked pager text has

  names_are : record_names (table_for (mark pager) text) ≡ pager.kept.numbers.items
  unfolding mark
  names_are = laid_names pager.area (mark pager) text pager.lawful marked

  pages : All (IsPage (layout_of pager.area)) pager.kept.numbers.items
  pages = entries_within pager.area pager.kept.numbers.items pager.entries

  -- the pager's table counts, and names its pages
  pub stands : (s : List ℕ) → HasShot pager s
      → (tables_standing (layout_of pager.area) s ≡ counts (mark pager).second (open_table (table_for (mark pager) text)))
      × (map (page_of (layout_of pager.area) s) (record_names (table_for (mark pager) text)) ≡ pages_in text)
  unfolding snapshot
  stands s shown = shot_back record_names (layout_of pager.area) s (tables_standing (layout_of pager.area) s)
      (laid (mark pager) (Some text))
      (shown ∙ ap (λ p. kept_shot (laid (mark pager) p)) has ∙ held pager.area (mark pager) text marked)

  only : (s : List ℕ) → HasShot pager s → (k : Bool) (t : Table) → tables_standing (layout_of pager.area) s ≡ counts k t
      → open_table (table_for (mark pager) text) ≡ t
  only s shown k t is = tables (mark pager).second k (open_table (table_for (mark pager) text)) t (sym (stands s shown).0 ∙ is)
    where
      tables : (j k : Bool) (x y : Table) → counts j x ≡ counts k y → x ≡ y
      tables j k x y h = cc

  pub named_pages : (s : List ℕ) → HasShot pager s → AreNamed record_names (layout_of pager.area) s
  named_pages s shown k t is = subst (λ (x : Table). All (IsPage (layout_of pager.area)) (record_names x.body)) (only s shown k t is)
      (subst (λ (ns : List ℕ). All (IsPage (layout_of pager.area)) ns) (sym names_are) pages)

  pub mute_other : (s : List ℕ) → HasShot pager s → (table_at (layout_of pager.area) (not pager.second) s).gate ≡ OPEN
      → IsMute (layout_of pager.area) (not pager.second) s
  unfolding mark
  mute_other s shown gate =
      mute_beside (layout_of pager.area) s pager.second (open_table (table_for (mark pager) text)) (stands s shown).0 gate

  module _ (named : List Bool) (marks : AreMarked named pager.kept.numbers.items) where
    pub unnamed_pages : (n : ℕ) → get_or named n false ≡ false → (s : List ℕ) → HasShot pager s
        → IsUnnamed record_names (layout_of pager.area) n s
    unnamed_pages n none s shown k t is = subst (λ (x : Table). IsBeside record_names (layout_of pager.area) n x)
        (only s shown k t is)
        (subst (λ (ns : List ℕ). All (λ m. IsPage (layout_of pager.area) m × (m ≢ n)) ns) (sym names_are)
        (beside_unmarked (IsPage (layout_of pager.area)) pager.kept.numbers.items n pages (sym (marks n) ∙ none)))

    pub settled_rests : (start : DiskState) (c : List ℕ) → OnSeen (HasShot pager) start
        → IsTidied (layout_of pager.area) (not pager.second) named start c → IsLaidFor pager c
    unfolding mark
    settled_rests start c shown tidied =
        let counts_read = stands tidied.read (shown tidied.read tidied.told) in
        rests_of pager (Some text) has c (record {
          still = record {
            current = sym (ap (λ k. table_at (layout_of pager.area) k c) (not_not pager.second)) ∙ tidied.other
                ∙ ap (λ k. table_at (layout_of pager.area) k tidied.read) (not_not pager.second)
                ∙ current (layout_of pager.area) tidied.read pager.second (open_table (table_for (mark pager) text)) counts_read.0;
            pages = same_map (page_of (layout_of pager.area) c) (page_of (layout_of pager.area) tidied.read)
                (record_names (table_for (mark pager) text)) kept
                ∙ counts_read.1;
            shut = ap (λ t. t.gate) tidied.wiped_is;
          };
          other = tidied.wiped_is;
          blank = λ m is beside. tidied.blank m is (marks m
              ∙ unmarked_beside (IsPage (layout_of pager.area)) pager.kept.numbers.items m
              (subst (λ (ns : List ℕ). All (λ j. IsPage (layout_of pager.area) j × (j ≢ m)) ns) names_are beside));
        })
      where
        kept : All (λ n. page_of (layout_of pager.area) c n ≡ page_of (layout_of pager.area) tidied.read n)
            (record_names (table_for (mark pager) text))
        kept = subst
            (λ (ns : List ℕ). All (λ n. page_of (layout_of pager.area) c n ≡ page_of (layout_of pager.area) tidied.read n) ns)
            (sym names_are)
            (All-from_get_or (λ n. page_of (layout_of pager.area) c n ≡ page_of (layout_of pager.area) tidied.read n)
            pager.kept.numbers.items 0
            (λ i lt. tidied.kept (get_or pager.kept.numbers.items i 0)
            (All-get_or (IsPage (layout_of pager.area)) pager.kept.numbers.items i 0 lt pages)
            (marks (get_or pager.kept.numbers.items i 0) ∙ among_at pager.kept.numbers.items i lt)))

    -- at rest there is nothing to wipe
    pub rests_blank : (s : List ℕ) → IsLaidFor pager s → (n : ℕ) → IsPage (layout_of pager.area) n
        → get_or named n false ≡ false → page_of (layout_of pager.area) s n ≡ blank_page
    rests_blank s rests n is none = (rests_as pager (Some text) has s rests).blank n is
        (subst (λ (ns : List ℕ). All (λ m. IsPage (layout_of pager.area) m × (m ≢ n)) ns) (sym names_are)
        (beside_unmarked (IsPage (layout_of pager.area)) pager.kept.numbers.items n pages (sym (marks n) ∙ none)))
