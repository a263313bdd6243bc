-- The calls of a retire, in the words of callers.
use Rattle.std.proofs.Common.{◌≡◌, ℕ, ◌-◌, ◌^◌, ◌<◌, true, false, List, Result, Ok, Err, length, replicate, take, refl, sym, ◌∙◌, ap, subst, arith}
use Rattle.dr_base.specs.declared.limits.TheConstants.{PAGE}
use Rattle.dr_disk.specs.declared.call.Call.{Call}
use Rattle.dr_disk.specs.State.{Always, DiskState, IsLawful}
use Rattle.dr_disk.specs.Spans.{HavePassed, Span}
use Rattle.dr_disk.specs.Called.{Called}
use Rattle.pages.specs.declared.layout.Layout.{Layout}
use Rattle.pages.specs.Around.{KeepsOutside, ReadsAround}
use Rattle.pages.specs.Snapshots.{Snapshot}
use Rattle.pages.specs.Stops.{retire_call, retires as page_retires}
use Rattle.pages.specs.Tables.{AreZeros, Table}
use Rattle.pages.specs.Retiring.{IsNewest, IsOver, Retires}
use Rattle.pages.specs.Runs.{CameNext, RunsCalls}
use Rattle.pages.specs.Writing.{AreFree}
use Rattle.record_pages.specs.Tables.{record_names}
use Rattle.slot_store.specs.declared.errors.StoreFault.{StoreFault}
use Rattle.slot_store.specs.declared.pager.Pager.{Pager}
use Rattle.slot_store.specs.Areas.{layout_of}
use Rattle.slot_store.specs.Putting.{HasRested, KeepsRecord, call_of, retire_calls, retire_kind}
use Rattle.slot_store.specs.Stops.{retiring}
use Rattle.slot_store.specs.Pager.{Awaits}
use Rattle.slot_store.specs.Store.{HasArea, ReadsOutsideArea}
use Rattle.slot_store.proofs.Puts.PutCalls.{called_err, called_ok}
use Rattle.slot_store.proofs.Puts.Retiring.{free, newest, retire_done, retire_whole}

module _ (pager : Pager) where
  pub no_calls : (start : DiskState) → pager.replaced ≡ false
      → HavePassed (retire_calls pager) start start
  unfolding retire_calls
  no_calls start none m told = (
    m,
    told,
    let e : retiring pager.replaced (length pager.draft.plan.dropped.items) ≡ 0 = ap
        (λ r. retiring r (length pager.draft.plan.dropped.items)) none in omega (arith, e),
  )

  pub all_calls : pager.replaced ≡ true
      → page_retires (length pager.draft.plan.dropped.items) ≡ retire_calls pager
  unfolding retire_calls
  all_calls is = sym (ap (λ r. retiring r (length pager.draft.plan.dropped.items)) is)

  pub came_retired : (numbers : List ℕ) (start now : DiskState) (failed : Call)
      → numbers ≡ pager.draft.plan.dropped.items
      → CameNext (retire_call (length numbers)) start now failed
      → CameNext (retire_kind pager) start now failed
  unfolding retire_kind
  came_retired numbers start now failed same =
      subst (λ (ns : List ℕ). CameNext (retire_call (length ns)) start now failed) same

  -- a page of zeros, and zeros for all of a table after its gate
  pub zeros_here : (lay : Layout) (page rest : List ℕ) → lay ≡ layout_of pager.area
      → page ≡ pager.draft.zeros.items → rest ≡ take (PAGE - 1) pager.draft.zeros.items
      → AreZeros lay page rest
  zeros_here lay page rest lay_is page_is rest_is = record {
    page_zero = page_is ∙ pager.room.zero;
    rest_zero = rest_is ∙ ap (λ (z : List ℕ). take (PAGE - 1) z) pager.room.zero
        ∙ (let e : take (PAGE - 1) (replicate PAGE 0) ≡ replicate (PAGE - 1) 0 = refl in e)
        ∙ ap (λ (x : Layout). replicate (x.table - 1) 0) (sym lay_is);
  }

-- ---- by the arguments of the call

module _ (pager : Pager) (start : DiskState) (awaits : Always (Awaits pager) start)
    (lay : Layout) (numbers : List ℕ) (lay_is : lay ≡ layout_of pager.area)
    (numbers_are : numbers ≡ pager.draft.plan.dropped.items) where
  abbrev Here : Layout
  Here = layout_of pager.area

  abbrev Dropped : List ℕ
  Dropped = pager.draft.plan.dropped.items

  abbrev placed : Table → List (List ℕ) → Snapshot
  placed table pages = record { second = pager.second; table = table; pages = pages }

  pub free_here : start.size < 2 ^ 64 → HasArea pager.area start
      → AreFree record_names lay numbers start
  free_here ends within =
      subst (λ (x : Layout). AreFree record_names x numbers start) (sym lay_is)
      (subst (λ (ns : List ℕ). AreFree record_names Here ns start) (sym numbers_are)
      (free pager start awaits ends within))

  pub newest_here : Always (IsNewest lay pager.second) start
  newest_here = subst (λ (x : Layout). Always (IsNewest x pager.second) start) (sym lay_is)
      (newest pager start awaits)

  module _ {T : Type 0} (end : DiskState) (result : Result T Call)
      (runs : RunsCalls lay (page_retires (length numbers)) start end result)
      (takes : (table : Table) (pages : List (List ℕ))
      → IsOver record_names lay pager.second numbers table pages start
      → Retires record_names lay numbers (placed table pages) start end result) where
    around : Span start end (KeepsOutside Here start)
    around = subst (λ (x : Layout). Span start end (KeepsOutside x start)) lay_is runs.around

    retires_here : (table : Table) (pages : List (List ℕ))
        → IsOver record_names Here pager.second Dropped table pages start
        → Retires record_names Here Dropped (placed table pages) start end result
    retires_here table pages over =
        subst (λ (x : Layout). Retires record_names x Dropped (placed table pages) start end result)
        lay_is
        (subst (λ (ns : List ℕ). Retires record_names lay ns (placed table pages) start end result)
        numbers_are
        (takes table pages
        (subst (λ (x : Layout). IsOver record_names x pager.second numbers table pages start)
        (sym lay_is)
        (subst (λ (ns : List ℕ). IsOver record_names Here pager.second ns table pages start)
        (sym numbers_are) over))))

    pub whole_here : Span start end (KeepsRecord pager start)
    whole_here = retire_whole pager start awaits end result around retires_here

    pub reads_here : ReadsOutsideArea pager.area start end
    reads_here = subst (λ (x : Layout). ReadsAround x start end) lay_is runs.reads

  pub done_here : {T : Type 0} (end : DiskState) (x : T)
      → RunsCalls lay (page_retires (length numbers)) start end (Ok x)
      → ((table : Table) (pages : List (List ℕ))
      → IsOver record_names lay pager.second numbers table pages start
      → Retires record_names lay numbers (placed table pages) start end (Ok x))
      → IsLawful start → Always (HasRested pager pager start) end
  done_here end x runs takes lawful = retire_done pager start awaits end x
      (around end (Ok x) runs takes) (retires_here end (Ok x) runs takes) lawful

  pub passed_here : {T U : Type 0} (end : DiskState) (x : U) (y : T)
      → RunsCalls lay (page_retires (length numbers)) start end (Ok x)
      → pager.replaced ≡ true → Called (retire_calls pager) call_of start end (Ok y)
  passed_here end x y runs is = called_ok (page_retires (length numbers)) (retire_calls pager) x y
      start end (ap (λ (ns : List ℕ). page_retires (length ns)) numbers_are ∙ all_calls pager is)
      runs.calls

  pub failed_here : {T U : Type 0} (end : DiskState) (call : Call) (e : StoreFault)
      → RunsCalls {T = U} lay (page_retires (length numbers)) start end (Err call)
      → call ≡ call_of e → pager.replaced ≡ true
      → Called {T = T} (retire_calls pager) call_of start end (Err e)
  failed_here {T = T} {U = U} end call e runs same is = called_err {T = T} {U = U}
      (page_retires (length numbers)) (retire_calls pager) call e start end
      (ap (λ (ns : List ℕ). page_retires (length ns)) numbers_are ∙ all_calls pager is) same
      runs.calls
