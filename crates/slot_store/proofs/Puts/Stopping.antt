-- What stands where a call failed while a record was replaced.
use Rattle.std.proofs.Common.{◌≡◌, ⊎_elim, ℕ, ◌+◌, ◌-◌, ◌≤◌, Bool, true, false, List, Option, Some, length, sym, ◌∙◌, ap, arith}
use Rattle.std.specs.Prelude.{if◌then◌else◌}
use Rattle.dr_disk.specs.State.{Always, DiskState, IsLawful}
use Rattle.dr_disk.specs.Spans.{HavePassed, Span}
use Rattle.pages.specs.Snapshots.{kept_shot, shot}
use Rattle.pages.specs.Stops.{IsPutStopped as IsHalted, put_shows as page_shows, put_took as page_took}
use Rattle.record_pages.specs.Tables.{record_names}
use Rattle.pages.proofs.Stopping.{shows_true, took_true}
use Rattle.slot_store.specs.declared.pager.Pager.{Pager}
use Rattle.slot_store.specs.Areas.{Area, layout_of}
use Rattle.slot_store.specs.Records.{stored_record, shot_in}
use Rattle.slot_store.specs.Stops.{IsStopped, putting, shows, took, writes_of}
use Rattle.slot_store.specs.Pager.{content}
use Rattle.slot_store.proofs.Puts.HasPlan.{fresh}
use Rattle.slot_store.proofs.Puts.PutDone.{new_recovered}
use Rattle.slot_store.proofs.Puts.Putting.{Setting, planned, shot_new, shot_old}
use Rattle.slot_store.proofs.Standing.{kept_recovered}

-- ---- a call of the put

module _ {old new : Pager} {text : List ℕ} {start : DiskState}
    (set : Setting old new text start) where
  -- the record that these bytes have, by which snapshot they have
  by_shot : (t : Bool) (c : List ℕ)
      → shot_in old.area c ≡ (if t then shot (shot_new new text) else kept_shot (shot_old old))
      → stored_record old.area c ≡ (if t then Some text else content old)
  by_shot true c is = new_recovered set c is
  by_shot false c is = kept_recovered old c is

  pub put_stopped : (end : DiskState)
      → IsHalted record_names (layout_of old.area) (length (fresh new)) (kept_shot (shot_old old))
      (shot (shot_new new text)) start end
      → IsStopped old.area (content old) (Some text) start end
  unfolding took shows
  put_stopped end halted = record {
    crash = λ b m mode c was_b is told.
        by_shot (page_took (length (fresh new)) (m - b) mode) c
        (halted.crash b m mode c was_b is told)
        ∙ ap (λ n. if page_took n (m - b) mode then Some text else content old)
        (planned set).writes;
    read = λ keeps b m s was_b is told.
        by_shot (page_shows (length (fresh new)) (m - b)) s (halted.read keeps b m s was_b is told)
        ∙ ap (λ n. if page_shows n (m - b) then Some text else content old) (planned set).writes;
  }

  pub put_writes : length (fresh new) ≡ writes_of (content old) (Some text)
  put_writes = (planned set).writes

-- ---- a call of the retire

module _ (area : Area) (old new : Option (List ℕ)) (start mid end : DiskState)
    (lawful : IsLawful end) (put : Always (λ c. stored_record area c ≡ new) mid) (P : List ℕ → Type 0)
    (span : Span mid end P) (is_new : (c : List ℕ) → P c → stored_record area c ≡ new)
    (passed : HavePassed (putting old new) start mid) where
  images : (c : List ℕ) → end.image c → stored_record area c ≡ new
  images c left = ⊎_elim (put c) (is_new c) (span.last c left)

  many : (b m : ℕ) → start.passed ≡ Some b → end.passed ≡ Some m → writes_of old new + 4 ≤ m - b
  many b m was_b is =
      let between = span.passes m is in
      let first = passed between.0 between.1 in
      let same : b ≡ first.0 = let e : Some b ≡ Some first.0 = sym was_b ∙ first.1 in cc in
      omega (arith, first.2, between.2)

  pub stopped_late : IsStopped area old new start end
  unfolding took shows
  stopped_late = record {
    crash = λ b m mode c was_b is told. images c (lawful.leaves_now mode c told)
        ∙ sym (ap (λ t. if t then new else old)
        (took_true (writes_of old new) (m - b) mode (many b m was_b is)));
    read = λ keeps b m s was_b is told. images s (lawful.seen_now s told)
        ∙ sym (ap (λ t. if t then new else old)
        (shows_true (writes_of old new) (m - b) (omega (arith, many b m was_b is))));
  }
