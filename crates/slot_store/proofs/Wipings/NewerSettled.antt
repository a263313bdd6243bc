-- A pager with a record, beside which all else is wiped.
use Rattle.std.proofs.Common.{◌≡◌, ◌≢◌, ℕ, ◌-◌, Bool, List, take, replicate, Some, sym, ◌∙◌, ap}
use Rattle.std.specs.Prelude.{not}
use Rattle.dr_base.specs.declared.limits.TheConstants.{PAGE}
use Rattle.dr_disk.specs.State.{Always, DiskState, IsSettled, OnSeen}
use Rattle.dr_disk.specs.Spans.{Span}
use Rattle.pages.specs.declared.layout.TheConstants.{OPEN}
use Rattle.pages.specs.Clearing.{AreReadBlank, AreUnmarked}
use Rattle.pages.specs.Tables.{table_at}
use Rattle.pages.specs.Tidying.{AreNamed, IsMute, IsTidied}
use Rattle.record_pages.specs.Tables.{record_names}
use Rattle.slot_store.specs.declared.pager.Pager.{Pager}
use Rattle.slot_store.specs.Areas.{layout_of}
use Rattle.pages.specs.Judged.{table_with}
use Rattle.slot_store.specs.Reading.{IsLikeRead}
use Rattle.slot_store.specs.Settling.{HasShot, IsAtRestAsRead, RestsAsRead}
use Rattle.slot_store.specs.Pager.{content, mark}
use Rattle.slot_store.proofs.Alike.{left_like}
use Rattle.slot_store.proofs.Wipings.Marks.{AreMarked}
use Rattle.slot_store.proofs.Wipings.Settled.{has_text, mute_other, named_pages, rests_as, rests_blank, settled_rests, unnamed_pages}

module _ (pager : Pager) (turn : pager.turn ≢ 0) (start : DiskState) (settled : IsSettled start)
    (shown : OnSeen (HasShot pager) start) where
  text : List ℕ
  text = take pager.kept.len pager.kept.bytes.items

  has : content pager ≡ Some (take pager.kept.len pager.kept.bytes.items)
  has = has_text pager turn

  pub newer_counts : Always (AreNamed record_names (layout_of pager.area)) start
  newer_counts c left = named_pages pager (take pager.kept.len pager.kept.bytes.items) has c (shown c (settled c left))

  -- what was read of the other table
  module _ (gate : ℕ) (other : List ℕ)
      (read : OnSeen (λ s. table_at (layout_of pager.area) (not pager.second) s ≡ table_with gate other) start) where
    pub newer_mute : gate ≡ OPEN → Always (IsMute (layout_of pager.area) (not pager.second)) start
    newer_mute is c left = mute_other pager (take pager.kept.len pager.kept.bytes.items) has c (shown c (settled c left))
        (ap (λ t. t.gate) (read c (settled c left)) ∙ is)

    other_rests : IsAtRestAsRead pager start → table_with gate other ≡ table_with 0 (replicate (PAGE - 1) 0)
    unfolding mark
    other_rests rests = sym (read rests.0 rests.1)
        ∙ (rests_as pager (Some (take pager.kept.len pager.kept.bytes.items)) has rests.0 rests.2).other

    pub newer_gate : IsAtRestAsRead pager start → gate ≡ 0
    newer_gate rests = ap (λ t. t.gate) (other_rests rests)

    pub newer_body : IsAtRestAsRead pager start → other ≡ replicate (PAGE - 1) 0
    newer_body rests = ap (λ t. t.body) (other_rests rests)

  module _ (named : List Bool) (marks : AreMarked named pager.kept.numbers.items) where
    pub newer_unnamed : AreUnmarked record_names (layout_of pager.area) named start
    newer_unnamed n is none c left =
        unnamed_pages pager (take pager.kept.len pager.kept.bytes.items) has named marks n none c (shown c (settled c left))

    pub newer_blank : IsAtRestAsRead pager start → AreReadBlank (layout_of pager.area) named start
    newer_blank rests = (
      rests.0,
      rests.1,
      λ n is none. rests_blank pager (take pager.kept.len pager.kept.bytes.items) has named marks rests.0 rests.2 n is none,
    )

    pub newer_rests : (now : DiskState) → Span start now (IsLikeRead pager.area start)
        → Always (IsTidied (layout_of pager.area) (not pager.second) named start) now
        → Always (RestsAsRead pager.area start pager) now
    newer_rests now span tidied c left = (
      settled_rests pager (take pager.kept.len pager.kept.bytes.items) has named marks start c shown (tidied c left),
      left_like pager.area start settled now span c left,
    )
