-- A pager that was opened over what was read.
use Rattle.std.proofs.Common.{◌≡◌, ◌+◌, ◌*◌, ℕ, true, false, List, Option, Some, None, Result, Ok, Err, OnOk, refl, sym, ◌∙◌, ap, subst, arith}
use Rattle.std.specs.Prelude.{is_some}
use Rattle.dr_disk.specs.declared.call.Call.{Call}
use Rattle.dr_disk.specs.State.{Always, DiskState, IsSettled, OnSeen}
use Rattle.dr_disk.specs.Spans.{Span}
use Rattle.dr_disk.specs.Called.{Went, itself}
use Rattle.dr_disk.proofs.Calling.{failed_as, passed_as, then_any}
use Rattle.dr_disk.proofs.Steps.{spans, widen}
use Rattle.pages.specs.Runs.{IsUntouched, ReadsAlone}
use Rattle.pages.specs.Counted.{MakesAtMost, ReadsAtMost, lookings, one_of}
use Rattle.pages.proofs.Counting.{few_as, few_failed, few_looked, few_then}
use Rattle.pages.proofs.Looking.{reads_more, reads_twice, untouched_twice}
use Rattle.slot_store.specs.Limits.{settlings}
use Rattle.slot_store.specs.declared.pager.Pager.{Pager}
use Rattle.slot_store.specs.declared.opening.Found.{Found}
use Rattle.slot_store.specs.declared.opening.Found.TheVariants.{Content, NoContent}
use Rattle.slot_store.specs.declared.outcome.Outcome.{Outcome}
use Rattle.slot_store.specs.declared.outcome.Outcome.TheVariants.{Refused, Stored}
use Rattle.slot_store.specs.Areas.{Area, layout_of}
use Rattle.slot_store.specs.Found.{found_as, has_content}
use Rattle.slot_store.specs.Outcome.{OpensStore}
use Rattle.slot_store.specs.AtRest.{IsAtRest, IsReadAtRest}
use Rattle.slot_store.specs.Layout.{Mark}
use Rattle.slot_store.specs.Reading.{IsLikeRead, damaged, area_reading, reading_of}
use Rattle.slot_store.specs.Settling.{HasShot, RestsAsRead, Settles}
use Rattle.slot_store.specs.Pager.{content, mark}
use Rattle.slot_store.proofs.Alike.{as_read, like_before}
use Rattle.slot_store.proofs.Openings.AtRestRead.{is_same}
use Rattle.slot_store.proofs.Standing.{rests_seen}
use Rattle.slot_store.proofs.Wipings.Wiping.{on_ok}

-- reads alone leave what was read
pub looked_like : {T : Type 0} {k : ℕ} (area : Area) (start b : DiskState) (r : Result T Call) → IsSettled start → ReadsAlone k start b r
    → Span start b (IsLikeRead area start)
looked_like area start b r settled looks =
    widen start b start.image (IsLikeRead area start) (λ c left. as_read area start c (settled c left)) looks.during

-- after reads alone, all else was wiped
module _ {T U : Type 0} {k : ℕ} (pager : Pager) (x : U) (start b now : DiskState) (r : Result T Call) (settled : IsSettled start)
    (looks : ReadsAlone k start b (Ok x)) (shown : OnSeen (HasShot pager) start) (settles : Settles pager b now r) where
  same : b.seen ≡ start.seen
  same = looks.untouched.unwritten.seen

  pub opened_moment : Span start now (IsLikeRead pager.area start)
  opened_moment = spans start b now (IsLikeRead pager.area start) (looked_like pager.area start b (Ok x) settled looks)
      (widen b now (IsLikeRead pager.area b) (IsLikeRead pager.area start) (like_before pager.area start b looks.untouched.unwritten.seen)
      settles.any_moment)

  pub opened_rests : OnOk r (Always (RestsAsRead pager.area start pager) now)
  opened_rests = on_ok r
      (λ rests c left. let is = rests c left in (is.0, like_before pager.area start b looks.untouched.unwritten.seen c is.1))
      settles.done

  pub opened_calls : Went itself start now r
  opened_calls = then_any x start b now start.image r looks.during looks.calls settles.calls

  pub opened_still : IsReadAtRest pager.area start → IsUntouched start now
  opened_still was = untouched_twice start b now looks.untouched (settles.still (
    was.bytes,
    looks.untouched.unwritten.seen ∙ was.told,
    (is_same pager was.bytes (shown was.bytes was.told) was.mark was.text was.rests).rests_too,
  ))

  pub opened_reads : ReadsAtMost (k + 2 * lookings (layout_of pager.area)) start now
  opened_reads = reads_twice k (2 * lookings (layout_of pager.area)) _ start b now (omega arith) looks.few settles.reads

  pub opened_few : MakesAtMost (settlings pager.area) one_of start now r
  opened_few = few_then 0 (settlings pager.area) (settlings pager.area) x start b now r (omega arith)
      (few_looked 0 start b (Ok x) looks) settles.few

-- one that was read at rest lies where it lay
pub opened_mark : (pager : Pager) (start : DiskState) → OnSeen (HasShot pager) start → (s : List ℕ) (m : Mark) (text : List ℕ)
    → start.seen ≡ Some s → IsAtRest pager.area m (Some text) s → mark pager ≡ m
opened_mark pager start shown s m text told rests = (is_same pager s (shown s told) m (Some text) rests).same_mark text refl

-- what is read, as it is answered
pub found_reading : (what : Found) (o : Option (List ℕ)) → has_content what ≡ is_some o → reading_of o ≡ found_as what o
found_reading NoContent None is = refl
found_reading NoContent (Some text) is = absurd (let e : false ≡ true = is in cc)
found_reading Content None is = absurd (let e : true ≡ false = is in cc)
found_reading Content (Some text) is = refl

-- ---- what opening comes to

-- the pages of a pager's area are those of the area
same_most : (area other : Area) (start now : DiskState) → other ≡ area
    → ReadsAtMost (area.most + 2 * lookings (layout_of other)) start now
    → ReadsAtMost (other.most + 2 * lookings (layout_of other)) start now
same_most area other start now is = reads_more _ _ start now (omega (arith, ap (λ a. a.most) is))

module _ {T U : Type 0} (fault_at : List ℕ → Option ℕ) (area : Area) (pager : Pager) (is_area : pager.area ≡ area) (x : U)
    (start b now : DiskState) (settled : IsSettled start) (looks : ReadsAlone area.most start b (Ok x))
    (shown : OnSeen (HasShot pager) start) where
  pub opens_stored : (what : Found) (y : T) → Settles pager b now (Ok y)
      → OnSeen (λ s. area_reading fault_at area s ≡ reading_of (content pager)) start
      → ((text : List ℕ) → content pager ≡ Some text → fault_at text ≡ None)
      → (content pager ≡ None → (mark pager).second ≡ true) → has_content what ≡ is_some (content pager)
      → OpensStore fault_at area start now (Ok (Stored pager what))
  opens_stored what y settles read text first found = subst (λ a. OpensStore fault_at a start now (Ok (Stored pager what))) is_area (record {
    found = record {
      area = refl;
      read = λ s told. ap (λ a. area_reading fault_at a s) is_area ∙ read s told ∙ found_reading what (content pager) found;
      text = text;
      found = sym found;
      at_rest = λ c left. let rests = opened_rests pager x start b now (Ok y) settled looks shown settles c left in
          (rests_seen pager c rests.0, rests.1);
      settled = settles.settled;
      mark = opened_mark pager start shown;
      first = first;
    };
    any_moment = opened_moment pager x start b now (Ok y) settled looks shown settles;
    still = opened_still pager x start b now (Ok y) settled looks shown settles;
    calls = passed_as itself itself (Stored pager what) y start now (opened_calls pager x start b now (Ok y) settled looks shown settles);
    reads = same_most area pager.area start now is_area (opened_reads pager x start b now (Ok y) settled looks shown settles);
    few = few_as _ (Stored pager what) y start now (opened_few pager x start b now (Ok y) settled looks shown settles);
  })

  pub opens_failed : (call : Call) → Settles {T = T} pager b now (Err call) → OpensStore fault_at area start now (Err call)
  opens_failed call settles = subst (λ a. OpensStore fault_at a start now (Err call)) is_area (record {
    found = tt;
    any_moment = opened_moment {T = T} pager x start b now (Err call) settled looks shown settles;
    still = opened_still {T = T} pager x start b now (Err call) settled looks shown settles;
    calls = failed_as {T = Outcome} {U = T} itself itself call call start now refl
        (opened_calls {T = T} pager x start b now (Err call) settled looks shown settles);
    reads = same_most area pager.area start now is_area (opened_reads {T = T} pager x start b now (Err call) settled looks shown settles);
    few = few_failed {T = Outcome} {U = T} _ (settlings pager.area) call start now (omega arith)
        (opened_few {T = T} pager x start b now (Err call) settled looks shown settles);
  })

-- what was read is damaged, or a read failed
module _ {U : Type 0} (fault_at : List ℕ → Option ℕ) (area : Area) (start now : DiskState) (settled : IsSettled start) where
  pub opens_refused : (slot at : ℕ) (x : U) → ReadsAlone area.most start now (Ok x) → OnSeen (λ s. area_reading fault_at area s ≡ damaged slot at) start
      → OpensStore fault_at area start now (Ok (Refused slot at))
  opens_refused slot at x looks is = record {
    found = (looks.untouched, is);
    any_moment = looked_like area start now (Ok x) settled looks;
    still = λ was. looks.untouched;
    calls = passed_as itself itself (Refused slot at) x start now looks.calls;
    reads = reads_more area.most (area.most + 2 * lookings (layout_of area)) start now (omega arith) looks.few;
    few = few_as _ (Refused slot at) x start now (few_looked (settlings area) start now (Ok x) looks);
  }

  pub opens_unread : (call : Call) → ReadsAlone {T = U} area.most start now (Err call) → OpensStore fault_at area start now (Err call)
  opens_unread call looks = record {
    found = tt;
    any_moment = looked_like {T = U} area start now (Err call) settled looks;
    still = λ was. looks.untouched;
    calls = failed_as {T = Outcome} {U = U} itself itself call call start now refl looks.calls;
    reads = reads_more area.most (area.most + 2 * lookings (layout_of area)) start now (omega arith) looks.few;
    few = few_failed {T = Outcome} {U = U} 0 (settlings area) call start now (omega arith)
        (few_looked {T = U} 0 start now (Err call) looks);
  }
