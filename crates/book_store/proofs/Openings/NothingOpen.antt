-- No table is open, and all is wiped.
use Rattle.std.proofs.Common.{◌≡◌, ◌≢◌, ℕ, All, Bool, true, false, List, [], get_or, map, sym, ◌∙◌, ap, subst}
use Rattle.std.specs.Prelude.{not}
use Rattle.std.proofs.lemmas.List.Elements.{All-nil}
use Rattle.dr_disk.specs.State.{Always, DiskState, IsLawful, IsSettled, OnSeen}
use Rattle.pages.specs.declared.layout.Layout.{Layout}
use Rattle.pages.specs.declared.layout.TheConstants.{OPEN}
use Rattle.pages.specs.Clearing.{AreUnmarked}
use Rattle.pages.specs.Judged.{table_with}
use Rattle.pages.specs.Layouts.{IsPage, blank_page}
use Rattle.pages.specs.Resting.{IsShotAtRest}
use Rattle.pages.specs.Snapshots.{Snapshot, page_of}
use Rattle.pages.specs.Tables.{Table, counts, none_open, tables_standing, table_at, wiped}
use Rattle.pages.specs.Tidying.{AreNamed, IsMute, IsTidied}
use Rattle.pages.proofs.Standings.{mute_none}

-- nothing is named
module _ (names : List ℕ → List ℕ) (l : Layout) (disk : DiskState) (closed : Always (λ c. tables_standing l c ≡ none_open) disk) where
  pub none_counts : Always (AreNamed names l) disk
  none_counts c left k table is = absurd (let e : none_open ≡ counts k table = sym (closed c left) ∙ is in cc)

  pub none_unnamed : (named : List Bool) → AreUnmarked names l named disk
  none_unnamed named n is none c left k table stands =
      absurd (let e : none_open ≡ counts k table = sym (closed c left) ∙ stands in cc)

  pub none_mute : (k : Bool) (gate : ℕ) (body : List ℕ) → IsSettled disk
      → OnSeen (λ s. table_at l k s ≡ table_with gate body) disk → gate ≡ OPEN → Always (IsMute l k) disk
  none_mute k gate body settled read is c left =
      mute_none l c k (closed c left) (ap (λ t. t.gate) (read c (settled c left)) ∙ is)

-- all of it is zeros
pub record IsEmpty (l : Layout) (c : List ℕ) : Type 0 where
  pub tables : (k : Bool) → table_at l k c ≡ wiped l.table
  pub pages : (n : ℕ) → IsPage l n → page_of l c n ≡ blank_page

-- at rest without a table it is, whichever table comes next
module _ (names : List ℕ → List ℕ) (l : Layout) (was : Snapshot) (table_is : was.table ≡ wiped l.table)
    (none : names was.table.body ≡ []) (c : List ℕ) where
  pub rests_empty : IsShotAtRest names l was c → IsEmpty l c
  rests_empty is = record {
    tables = λ k. by k was.second (is.still.current ∙ table_is) is.other;
    pages = λ n page. is.blank n page
        (subst (λ (ns : List ℕ). All (λ j. IsPage l j × (j ≢ n)) ns) (sym none) (All-nil (λ j. IsPage l j × (j ≢ n))));
  }
    where
      by : (k second : Bool) → table_at l second c ≡ wiped l.table → table_at l (not second) c ≡ wiped l.table
          → table_at l k c ≡ wiped l.table
      by true true one other = one
      by true false one other = other
      by false true one other = other
      by false false one other = one

  pub empty_rests : was.pages ≡ [] → IsEmpty l c → IsShotAtRest names l was c
  empty_rests no_pages is = record {
    still = record {
      current = is.tables was.second ∙ sym table_is;
      pages = ap (λ (ns : List ℕ). map (page_of l c) ns) none ∙ sym no_pages;
      shut = ap (λ t. t.gate) (is.tables (not was.second));
    };
    other = is.tables (not was.second);
    blank = λ m page beside. is.pages m page;
  }

-- both tables were wiped, one after the other, and each page
module _ (l : Layout) (named : List Bool) (none : (n : ℕ) → get_or named n false ≡ false) (start a : DiskState)
    (lawful : IsLawful a) (first : Always (IsTidied l false named start) a) where
  pub twice_empty : (c : List ℕ) → IsTidied l true named a c → IsEmpty l c
  twice_empty c next = record {
    tables = λ k. by k;
    pages = λ n page. next.blank n page (none n);
  }
    where
      by : (k : Bool) → table_at l k c ≡ wiped l.table
      by true = next.wiped_is
      by false = next.other ∙ (first next.read (lawful.seen_now next.read next.told)).wiped_is

  -- what was read of table 1, once table 0 was wiped
  pub second_read : (second : Table) → OnSeen (λ s. table_at l true s ≡ second) start
      → OnSeen (λ s. table_at l true s ≡ second) a
  second_read second read s told =
      let tidied = first s (lawful.seen_now s told) in
      tidied.other ∙ read tidied.read tidied.told
