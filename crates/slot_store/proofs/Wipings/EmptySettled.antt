-- A pager without a record, all of whose area is wiped.
use Rattle.std.proofs.Common.{◌≡◌, ◌≢◌, ⊎_elim, ℕ, ◌-◌, All, Bool, true, false, List, get_or, map, replicate, None, sym, ◌∙◌, ap, subst}
use Rattle.std.specs.Prelude.{not}
use Rattle.dr_base.specs.declared.limits.TheConstants.{PAGE}
use Rattle.dr_disk.specs.State.{Always, DiskState, IsLawful, IsSettled, OnSeen}
use Rattle.dr_disk.specs.Spans.{Span}
use Rattle.pages.specs.declared.layout.TheConstants.{OPEN}
use Rattle.pages.specs.Layouts.{IsPage, blank_page}
use Rattle.pages.specs.Clearing.{AreReadBlank, AreUnmarked, IsSameShots}
use Rattle.pages.specs.Snapshots.{kept_shot, page_of, snapshot}
use Rattle.pages.specs.Tables.{Table, counts, none_open, tables_standing, table_at, wiped}
use Rattle.pages.specs.Resting.{IsShotAtRest as AreAtRest}
use Rattle.pages.specs.Tidying.{AreNamed, IsMute, IsTidied}
use Rattle.record_pages.specs.Tables.{record_names}
use Rattle.slot_store.specs.declared.pager.Pager.{Pager}
use Rattle.slot_store.specs.Areas.{layout_of}
use Rattle.pages.specs.Judged.{table_with}
use Rattle.slot_store.specs.Layout.{Mark, laid}
use Rattle.slot_store.specs.Reading.{IsLikeRead}
use Rattle.slot_store.specs.Settling.{HasShot, IsAtRestAsRead, RestsAsRead}
use Rattle.slot_store.specs.Pager.{IsLaidFor, mark}
use Rattle.slot_store.proofs.Named.{blank_names}
use Rattle.slot_store.proofs.Wipings.Settled.{has_none, rests_as, rests_of}
use Rattle.pages.proofs.Standings.{mute_none, none_back}
use Rattle.std.proofs.lemmas.List.Elements.{All-nil}

-- where no table is open nothing is named
module _ (pager : Pager) (disk : DiskState) (closed : Always (λ c. tables_standing (layout_of pager.area) c ≡ none_open) disk) where
  pub none_counts : Always (AreNamed record_names (layout_of pager.area)) disk
  none_counts c left k table is = absurd (let e : none_open ≡ counts k table = sym (closed c left) ∙ is in cc)

  pub none_unnamed : (named : List Bool) → AreUnmarked record_names (layout_of pager.area) named disk
  none_unnamed named n is none c left k table stands =
      absurd (let e : none_open ≡ counts k table = sym (closed c left) ∙ stands in cc)

  pub none_mute : (k : Bool) (gate : ℕ) (body : List ℕ) → IsSettled disk
      → OnSeen (λ s. table_at (layout_of pager.area) k s ≡ table_with gate body) disk
      → gate ≡ OPEN → Always (IsMute (layout_of pager.area) k) disk
  none_mute k gate body settled read is c left =
      mute_none (layout_of pager.area) c k (closed c left) (ap (λ t. t.gate) (read c (settled c left)) ∙ is)

module _ (pager : Pager) (turn : pager.turn ≡ 0) (start : DiskState) (settled : IsSettled start)
    (shown : OnSeen (HasShot pager) start) where
  pub empty_closed : Always (λ c. tables_standing (layout_of pager.area) c ≡ none_open) start
  unfolding snapshot
  empty_closed c left = none_back record_names (layout_of pager.area) c (tables_standing (layout_of pager.area) c)
      (shown c (settled c left) ∙ ap (λ o. kept_shot (laid (mark pager) o)) (has_none pager turn))

  pub later_closed : (a : DiskState) → Span start a (IsSameShots record_names (layout_of pager.area) start)
      → Always (λ c. tables_standing (layout_of pager.area) c ≡ none_open) a
  later_closed a span c left = ⊎_elim (λ was. empty_closed c was) (λ is. is.counts_same ∙ empty_closed is.entry is.image) (span.last c left)

-- all of it is zeros
pub record IsEmpty (pager : Pager) (c : List ℕ) : Type 0 where
  pub tables : (k : Bool) → table_at (layout_of pager.area) k c ≡ wiped PAGE
  pub pages : (n : ℕ) → IsPage (layout_of pager.area) n → page_of (layout_of pager.area) c n ≡ blank_page

-- at rest without a record it is, whichever table comes next
pub laid_empty : (pager : Pager) (m : Mark) (c : List ℕ) → AreAtRest record_names (layout_of pager.area) (laid m None) c
    → IsEmpty pager c
laid_empty pager m c is = record {
  tables = λ k. by k m.second is.still.current is.other;
  pages = λ n page. is.blank n page
      (subst (λ (ns : List ℕ). All (λ j. IsPage (layout_of pager.area) j × (j ≢ n)) ns) (sym blank_names)
      (All-nil (λ j. IsPage (layout_of pager.area) j × (j ≢ n))));
}
  where
    by : (k second : Bool) → table_at (layout_of pager.area) second c ≡ wiped PAGE
        → table_at (layout_of pager.area) (not second) c ≡ wiped PAGE → table_at (layout_of pager.area) k c ≡ wiped PAGE
    by true true one other = one
    by true false one other = other
    by false true one other = other
    by false false one other = one

module _ (pager : Pager) (turn : pager.turn ≡ 0) (c : List ℕ) where
  pub empty_rests : IsEmpty pager c → IsLaidFor pager c
  empty_rests is = rests_of pager None (has_none pager turn) c (record {
    still = record {
      current = is.tables (mark pager).second;
      pages = ap (λ (ns : List ℕ). map (page_of (layout_of pager.area) c) ns) blank_names;
      shut = ap (λ t. t.gate) (is.tables (not (mark pager).second));
    };
    other = is.tables (not (mark pager).second);
    blank = λ m page beside. is.pages m page;
  })

  pub rests_empty : IsLaidFor pager c → IsEmpty pager c
  rests_empty rests = laid_empty pager (mark pager) c (rests_as pager None (has_none pager turn) c rests)

-- both tables were wiped, one after the other, and each page
module _ (pager : Pager) (turn : pager.turn ≡ 0) (named : List Bool) (none : (n : ℕ) → get_or named n false ≡ false)
    (start a b : DiskState) (lawful : IsLawful a) where
  twice_empty : Always (IsTidied (layout_of pager.area) false named start) a → (c : List ℕ)
      → IsTidied (layout_of pager.area) true named a c → IsEmpty pager c
  twice_empty first c next = record {
    tables = λ k. by k;
    pages = λ n page. next.blank n page (none n);
  }
    where
      by : (k : Bool) → table_at (layout_of pager.area) k c ≡ wiped PAGE
      by true = next.wiped_is
      by false = next.other ∙ (first next.read (lawful.seen_now next.read next.told)).wiped_is

  pub twice_rests : Always (IsTidied (layout_of pager.area) false named start) a
      → Always (IsTidied (layout_of pager.area) true named a) b
      → Always (IsLikeRead pager.area start) b → Always (RestsAsRead pager.area start pager) b
  twice_rests first next like c left = (empty_rests pager turn c (twice_empty first c (next c left)), like c left)

-- what was read of them
module _ (pager : Pager) (turn : pager.turn ≡ 0) (start : DiskState) (rests : IsAtRestAsRead pager start) (k : Bool) (gate : ℕ)
    (body : List ℕ) (read : OnSeen (λ s. table_at (layout_of pager.area) k s ≡ table_with gate body) start) where
  was : table_with gate body ≡ table_with 0 (replicate (PAGE - 1) 0)
  was = sym (read rests.0 rests.1) ∙ (rests_empty pager turn rests.0 rests.2).tables k

  pub empty_gate : gate ≡ 0
  empty_gate = ap (λ t. t.gate) was

  pub empty_body : body ≡ replicate (PAGE - 1) 0
  empty_body = ap (λ t. t.body) was

pub empty_blank : (pager : Pager) → pager.turn ≡ 0 → (named : List Bool) (disk : DiskState) → IsAtRestAsRead pager disk
    → AreReadBlank (layout_of pager.area) named disk
empty_blank pager turn named disk rests =
    (rests.0, rests.1, λ n page none. (rests_empty pager turn rests.0 rests.2).pages n page)

-- what was read of table 1, once table 0 was wiped
pub second_read : (pager : Pager) (named : List Bool) (second : Table) (start a : DiskState) → IsLawful a
    → Always (IsTidied (layout_of pager.area) false named start) a
    → OnSeen (λ s. table_at (layout_of pager.area) true s ≡ second) start
    → OnSeen (λ s. table_at (layout_of pager.area) true s ≡ second) a
second_read pager named second start a lawful first read s told =
    let tidied = first s (lawful.seen_now s told) in
    tidied.other ∙ read tidied.read tidied.told
