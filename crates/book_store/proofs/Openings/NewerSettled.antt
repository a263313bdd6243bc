-- Rows beside which all else is wiped.
use Rattle.std.proofs.Common.{◌≡◌, ◌≢◌, ℕ, ◌-◌, Bool, List, replicate, sym, ◌∙◌, ap}
use Rattle.std.specs.Prelude.{not}
use Rattle.dr_disk.specs.State.{Always, DiskState, IsSettled, OnSeen}
use Rattle.dr_disk.specs.Spans.{Span}
use Rattle.pages.specs.declared.layout.Layout.{Layout}
use Rattle.pages.specs.declared.layout.TheConstants.{OPEN}
use Rattle.pages.specs.Clearing.{AreReadBlank, AreUnmarked}
use Rattle.pages.specs.Judged.{table_with}
use Rattle.pages.specs.Snapshots.{Snapshot, shot, snapshot}
use Rattle.pages.specs.Tables.{table_at}
use Rattle.pages.specs.Tidying.{AreNamed, IsMute, IsTidied}
use Rattle.book_store.proofs.Openings.BesideShot.{mute_other, named_pages, rests_blank, tidied_rests, unnamed_pages}
use Rattle.book_store.proofs.Openings.Likes.{left_like}
use Rattle.book_store.proofs.Openings.PageMarks.{AreMarked}
use Rattle.book_store.proofs.Openings.StoreShot.{pages_named, shown_open}
use Rattle.book_store.specs.AtRest.{IsBookMarked, laid_book}
use Rattle.book_store.specs.Layout.{book_layout}
use Rattle.book_store.specs.LikeRead.{IsLikeReadBook}
use Rattle.book_store.specs.Locating.{HasBookShot}
use Rattle.book_store.specs.Rows.{book_names}
use Rattle.book_store.specs.Settling.{IsAtRestAsRead, RestsAsRead}
use Rattle.book_store.specs.Staging.{Rests}
use Rattle.book_store.specs.Store.{BookStore}
use Rattle.book_store.specs.declared.layout.TheConstants.{BOOK_TABLE}

module _ (store : BookStore) (marked : IsBookMarked store.rows store.mark store.held) (turn : store.mark.turn ≢ 0)
    (start : DiskState) (settled : IsSettled start) (shown : OnSeen (HasBookShot store) start) where
  abbrev l : Layout
  l = book_layout store.rows

  abbrev was : Snapshot
  was = laid_book store.mark store.held

  shows : OnSeen (λ s. snapshot book_names l s ≡ shot was) start
  shows s told = shown s told ∙ shown_open store.rows store.mark store.held marked turn

  pub newer_counts : Always (AreNamed book_names l) start
  newer_counts c left = named_pages book_names l was (pages_named store.rows store.mark store.held marked) c (shows c (settled c left))

  -- what was read of the other table
  module _ (gate : ℕ) (other : List ℕ)
      (read : OnSeen (λ s. table_at l (not store.mark.second) s ≡ table_with gate other) start) where
    pub newer_mute : gate ≡ OPEN → Always (IsMute l (not store.mark.second)) start
    newer_mute is c left = mute_other book_names l was (pages_named store.rows store.mark store.held marked) c
        (shows c (settled c left)) (ap (λ t. t.gate) (read c (settled c left)) ∙ is)

    other_rests : IsAtRestAsRead store start → table_with gate other ≡ table_with 0 (replicate (BOOK_TABLE - 1) 0)
    unfolding Rests
    other_rests rests = sym (read rests.0 rests.1) ∙ rests.2.laid_out.other

    pub newer_gate : IsAtRestAsRead store start → gate ≡ 0
    newer_gate rests = ap (λ t. t.gate) (other_rests rests)

    pub newer_body : IsAtRestAsRead store start → other ≡ replicate (BOOK_TABLE - 1) 0
    newer_body rests = ap (λ t. t.body) (other_rests rests)

  module _ (named : List Bool) (marks : AreMarked named (book_names was.table.body)) where
    pub newer_unnamed : AreUnmarked book_names l named start
    newer_unnamed n is none c left = unnamed_pages book_names l was (pages_named store.rows store.mark store.held marked)
        named marks n none c (shows c (settled c left))

    pub newer_blank : IsAtRestAsRead store start → AreReadBlank l named start
    unfolding Rests
    newer_blank rests = (
      rests.0,
      rests.1,
      λ n is none. rests_blank book_names l was (pages_named store.rows store.mark store.held marked) named marks
          rests.0 rests.2.laid_out n is none,
    )

    pub newer_rests : (now : DiskState) → Span start now (IsLikeReadBook store.rows start)
        → Always (IsTidied l (not store.mark.second) named start) now → Always (RestsAsRead start store) now
    unfolding Rests
    newer_rests now span tidied c left = (
      record {
        laid_out = tidied_rests book_names l was (pages_named store.rows store.mark store.held marked) named marks
            start c shows (tidied c left);
        marked = marked;
      },
      left_like store.rows start settled now span c left,
    )
