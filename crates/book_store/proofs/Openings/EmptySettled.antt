-- A book of which no table is open, all of which is wiped.
use Rattle.std.proofs.Common.{◌≡◌, ⊎_elim, ℕ, ◌-◌, Bool, true, false, List, get_or, replicate, sym, ◌∙◌, ap}
use Rattle.dr_disk.specs.State.{Always, DiskState, IsLawful, IsSettled, OnSeen}
use Rattle.dr_disk.specs.Spans.{Span}
use Rattle.pages.specs.declared.layout.Layout.{Layout}
use Rattle.pages.specs.Clearing.{AreReadBlank, IsSameShots}
use Rattle.pages.specs.Judged.{table_with}
use Rattle.pages.specs.Snapshots.{Snapshot, snapshot}
use Rattle.pages.specs.Tables.{none_open, tables_standing, table_at}
use Rattle.pages.specs.Tidying.{IsTidied}
use Rattle.pages.proofs.Standings.{none_back}
use Rattle.book_store.proofs.Openings.NothingOpen.{IsEmpty, empty_rests, rests_empty, twice_empty}
use Rattle.book_store.proofs.Openings.StoreShot.{names_none, pages_none, shown_none, table_none}
use Rattle.book_store.specs.AtRest.{IsBookMarked, laid_book}
use Rattle.book_store.specs.Layout.{book_layout}
use Rattle.book_store.specs.LikeRead.{IsLikeReadBook}
use Rattle.book_store.specs.Locating.{HasBookShot}
use Rattle.book_store.specs.Rows.{book_names}
use Rattle.book_store.specs.Settling.{IsAtRestAsRead, RestsAsRead}
use Rattle.book_store.specs.Staging.{Rests}
use Rattle.book_store.specs.Store.{BookStore}
use Rattle.book_store.specs.declared.layout.TheConstants.{BOOK_TABLE}

module _ (store : BookStore) (marked : IsBookMarked store.rows store.mark store.held) (turn : store.mark.turn ≡ 0) where
  abbrev l : Layout
  l = book_layout store.rows

  abbrev was : Snapshot
  was = laid_book store.mark store.held

  pub rests_of : (c : List ℕ) → IsEmpty l c → Rests store c
  unfolding Rests
  rests_of c is = record {
    laid_out = empty_rests book_names l was (table_none store.rows store.mark store.held marked turn)
        (names_none store.rows store.mark store.held marked turn) c
        (pages_none store.rows store.mark store.held marked turn) is;
    marked = marked;
  }

  empty_of : (c : List ℕ) → Rests store c → IsEmpty l c
  unfolding Rests
  empty_of c rests = rests_empty book_names l was (table_none store.rows store.mark store.held marked turn)
      (names_none store.rows store.mark store.held marked turn) c rests.laid_out

  module _ (start : DiskState) (settled : IsSettled start) (shown : OnSeen (HasBookShot store) start) where
    pub empty_closed : Always (λ c. tables_standing l c ≡ none_open) start
    unfolding snapshot
    empty_closed c left = none_back book_names l c (tables_standing l c)
        (shown c (settled c left) ∙ shown_none store.rows store.mark store.held marked turn)

    pub later_closed : (a : DiskState) → Span start a (IsSameShots book_names l start)
        → Always (λ c. tables_standing l c ≡ none_open) a
    later_closed a span c left = ⊎_elim (λ was. empty_closed c was) (λ is. is.counts_same ∙ empty_closed is.entry is.image) (span.last c left)

  -- what was read of a table
  module _ (start : DiskState) (rests : IsAtRestAsRead store start) where
    module _ (k : Bool) (gate : ℕ) (body : List ℕ)
        (read : OnSeen (λ s. table_at l k s ≡ table_with gate body) start) where
      read_as : table_with gate body ≡ table_with 0 (replicate (BOOK_TABLE - 1) 0)
      read_as = sym (read rests.0 rests.1) ∙ (empty_of rests.0 rests.2).tables k

      pub empty_gate : gate ≡ 0
      empty_gate = ap (λ t. t.gate) read_as

      pub empty_body : body ≡ replicate (BOOK_TABLE - 1) 0
      empty_body = ap (λ t. t.body) read_as

    pub empty_blank : (named : List Bool) → AreReadBlank l named start
    empty_blank named = (rests.0, rests.1, λ n page none. (empty_of rests.0 rests.2).pages n page)

  pub twice_rests : (named : List Bool) → ((n : ℕ) → get_or named n false ≡ false) → (start a b : DiskState) → IsLawful a
      → Always (IsTidied l false named start) a → Always (IsTidied l true named a) b
      → Always (IsLikeReadBook store.rows start) b → Always (RestsAsRead start store) b
  twice_rests named none start a b lawful first next like c left =
      (rests_of c (twice_empty l named none start a lawful first c (next c left)), like c left)
