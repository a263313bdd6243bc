-- What counts, and all else wiped beside it.
use Rattle.std.proofs.Common.{◌≡◌, ℕ, All, Bool, false, List, map, get_or, sym, ◌∙◌, ap, subst}
use Rattle.std.specs.Prelude.{not}
use Rattle.std.proofs.lemmas.List.Elements.{All-from_get_or, All-get_or}
use Rattle.dr_disk.specs.State.{DiskState, OnSeen}
use Rattle.pages.specs.declared.layout.Layout.{Layout}
use Rattle.pages.specs.declared.layout.TheConstants.{OPEN}
use Rattle.pages.specs.Layouts.{IsPage, blank_page}
use Rattle.pages.specs.Resting.{IsShotAtRest}
use Rattle.pages.specs.Snapshots.{IsBeside, IsUnnamed, Snapshot, page_of, shot, snapshot}
use Rattle.pages.specs.Tables.{Table, counts, tables_standing, table_at}
use Rattle.pages.specs.Tidying.{AreNamed, IsMute, IsTidied}
use Rattle.pages.proofs.Newest.{not_not}
use Rattle.pages.proofs.Standings.{current, mute_beside, shot_back}
use Rattle.book_store.proofs.Openings.PageMarks.{AreMarked, among_at, beside_unmarked, same_map, unmarked_beside}

module _ (names : List ℕ → List ℕ) (l : Layout) (was : Snapshot) (pages : All (IsPage l) (names was.table.body)) where
  abbrev Shows : List ℕ → Type 0
  Shows s = snapshot names l s ≡ shot was

  abbrev named_by : List ℕ
  named_by = names was.table.body

  -- its table counts, and names its pages
  stands : (s : List ℕ) → Shows s
      → (tables_standing l s ≡ counts was.second was.table) × (map (page_of l s) (names was.table.body) ≡ was.pages)
  unfolding snapshot
  stands s shown = shot_back names l s (tables_standing l s) was shown

  only : (s : List ℕ) → Shows s → (k : Bool) (t : Table) → tables_standing l s ≡ counts k t → was.table ≡ t
  only s shown k t is = tables was.second k was.table t (sym (stands s shown).0 ∙ is)
    where
      tables : (j k : Bool) (x y : Table) → counts j x ≡ counts k y → x ≡ y
      tables j k x y h = cc

  pub named_pages : (s : List ℕ) → Shows s → AreNamed names l s
  named_pages s shown k t is = subst (λ (x : Table). All (IsPage l) (names x.body)) (only s shown k t is) pages

  pub mute_other : (s : List ℕ) → Shows s → (table_at l (not was.second) s).gate ≡ OPEN → IsMute l (not was.second) s
  mute_other s shown gate = mute_beside l s was.second was.table (stands s shown).0 gate

  module _ (named : List Bool) (marks : AreMarked named (names was.table.body)) where
    pub unnamed_pages : (n : ℕ) → get_or named n false ≡ false → (s : List ℕ) → Shows s → IsUnnamed names l n s
    unnamed_pages n none s shown k t is = subst (λ (x : Table). IsBeside names l n x) (only s shown k t is)
        (beside_unmarked (IsPage l) named_by n pages (sym (marks n) ∙ none))

    pub tidied_rests : (start : DiskState) (c : List ℕ) → OnSeen Shows start → IsTidied l (not was.second) named start c
        → IsShotAtRest names l was c
    tidied_rests start c shown tidied =
        let read = stands tidied.read (shown tidied.read tidied.told) in
        record {
          still = record {
            current = sym (ap (λ k. table_at l k c) (not_not was.second)) ∙ tidied.other
                ∙ ap (λ k. table_at l k tidied.read) (not_not was.second)
                ∙ current l tidied.read was.second was.table read.0;
            pages = same_map (page_of l c) (page_of l tidied.read) named_by kept ∙ read.1;
            shut = ap (λ t. t.gate) tidied.wiped_is;
          };
          other = tidied.wiped_is;
          blank = λ m is beside. tidied.blank m is (marks m ∙ unmarked_beside (IsPage l) named_by m beside);
        }
      where
        kept : All (λ n. page_of l c n ≡ page_of l tidied.read n) named_by
        kept = All-from_get_or (λ n. page_of l c n ≡ page_of l tidied.read n) named_by 0
            (λ i lt. tidied.kept (get_or named_by i 0) (All-get_or (IsPage l) named_by i 0 lt pages)
            (marks (get_or named_by i 0) ∙ among_at named_by i lt))

    -- at rest there is nothing to wipe
    pub rests_blank : (s : List ℕ) → IsShotAtRest names l was s → (n : ℕ) → IsPage l n → get_or named n false ≡ false
        → page_of l s n ≡ blank_page
    rests_blank s rests n is none = rests.blank n is
        (beside_unmarked (IsPage l) named_by n pages (sym (marks n) ∙ none))
