-- The records of a fan's sessions are staged, one after the other.
use Rattle.std.proofs.Common.{Err, Ok, arith, length, refl, subst, suc, ℕ, ◌+◌, ◌-◌, ◌<◌, ◌≤◌, ◌∙◌, ◌≡◌, ap}
use Rattle.dr_disk.specs.Called.{Called}
use Rattle.dr_disk.specs.Spans.{Span}
use Rattle.dr_disk.specs.State.{Always, DiskState}
use Rattle.dr_disk.specs.declared.call.Call.TheVariants.{Write}
use Rattle.dr_disk.proofs.Calling.{failed_at_first, failed_later, none_made, passed_both}
use Rattle.dr_disk.proofs.Steps.{stays}
use Rattle.pages.specs.Runs.{CameNext, only}
use Rattle.pages.proofs.Around.{around_first, reads_both, reads_same}
use Rattle.pages.proofs.NextCalls.{came_later}
use Rattle.book_store.specs.Committing.{HasRows, KeepsRows, ReadsOutsideBook, call_of}
use Rattle.book_store.specs.Layout.{book_layout}
use Rattle.book_store.specs.Staging.{IsStagedOver}
use Rattle.book_store.specs.Store.{BookStore}
use Rattle.book_store.specs.declared.errors.StoreFault.{StoreFault}
use Rattle.book_store.proofs.Composed.{stay, stay_still}
use Rattle.kem_laws.specs.Mechanism.{Mechanism}
use Rattle.book.specs.Fans.{AllSay, Fan, fan_place, fan_row, fan_seed, fanned_store, fanned_writes, said_writes}
use Rattle.book.specs.Putting.{StagesFirst, StagingFails}
use Rattle.book.proofs.Fanning.Fanned.{store_rows, writes_more}

module _ (k : Mechanism) (fan : Fan) (first : BookStore) (start : DiskState) where
  pub none_first : IsStagedOver first first.held start → Always (HasRows first.rows first.held) start
      → StagesFirst k fan first start start 0
  none_first over has = record {
    over = over;
    any_moment = stays start (KeepsRows first.rows first.held start);
    still = λ c left. record { has = has c left; frame = around_first (book_layout first.rows) start c left };
    reads = reads_same (book_layout first.rows) start start refl;
    calls = record { passed = λ m told. (m, told, omega arith); few = tt; went = none_made call_of tt start };
  }

  module _ (all : AllSay k fan) (n : ℕ) (mid : DiskState) (so : StagesFirst k fan first start mid n) (new : BookStore)
      (end : DiskState) (next : new ≡ fanned_store k fan first (suc n)) where
    abbrev Writes : ℕ
    Writes = said_writes k fan.text (fan_seed fan n) (fan_row fan n) (fan_place fan n) (fanned_store k fan first n)

    abbrev total : ℕ
    total = fanned_writes k fan first (length fan.list)

    abbrev more : ℕ
    more = total - fanned_writes k fan first (suc n)

    rows_are : new.rows ≡ first.rows
    rows_are = ap (λ (s : BookStore). s.rows) next ∙ store_rows k fan all first (suc n)

    module _ (span : Span mid end (KeepsRows new.rows first.held mid)) (still : Always (KeepsRows new.rows first.held mid) end)
        (reads : ReadsOutsideBook (fanned_store k fan first n).rows mid end) where
      next_span : Span mid end (KeepsRows first.rows first.held mid)
      next_span = subst (λ r. Span mid end (KeepsRows r first.held mid)) rows_are span

      all_span : Span start end (KeepsRows first.rows first.held start)
      all_span = stay first.rows first.held start mid so.still end so.any_moment next_span

      all_still : Always (KeepsRows first.rows first.held start) end
      all_still = stay_still first.rows first.held start mid so.still end
          (subst (λ r. Always (KeepsRows r first.held mid) end) rows_are still)

      all_reads : ReadsOutsideBook first.rows start end
      all_reads = reads_both (book_layout first.rows) start mid end so.reads
          (subst (λ r. ReadsOutsideBook r mid end) (store_rows k fan all first n) reads)

      pub staged_next : IsStagedOver new first.held end → Called {T = Unit} Writes call_of mid end (Ok tt)
          → StagesFirst k fan first start end (suc n)
      staged_next over calls = record {
        over = subst (λ (s : BookStore). IsStagedOver s first.held end) next over;
        any_moment = all_span;
        still = all_still;
        reads = all_reads;
        calls = passed_both {T = Unit} {U = Unit} {V = Unit} (fanned_writes k fan first n) Writes call_of call_of call_of
            tt tt tt start mid end so.calls calls;
      }

      pub staging_failed : (fault : StoreFault) → n < length fan.list
          → Called {T = Unit} Writes call_of mid end (Err fault) → CameNext (only Write) mid end fault.call
          → StagingFails k fan first start end fault
      staging_failed fault lt calls kind = record {
        any_moment = all_span;
        still = all_still;
        reads = all_reads;
        calls = subst (λ w. Called {T = Unit} w call_of start end (Err fault)) sums
            (failed_at_first {T = Unit} {U = Unit} (fanned_writes k fan first (suc n)) more call_of call_of fault fault start end refl
            (failed_later {T = Unit} {U = Unit} {V = Unit} (fanned_writes k fan first n) Writes call_of call_of call_of
            tt fault fault start mid end (KeepsRows first.rows first.held start) (KeepsRows first.rows first.held mid)
            refl so.any_moment so.calls next_span calls));
        kind = came_later (only Write) (only Write) (fanned_writes k fan first n) Writes fault.call start mid end
            so.calls.passed next_span.passes calls.few (λ i less. refl) kind;
      }
        where
          least : fanned_writes k fan first (suc n) ≤ total
          least = subst (λ i. fanned_writes k fan first (suc n) ≤ fanned_writes k fan first i)
              (let e : suc n + (length fan.list - suc n) ≡ length fan.list = omega (arith, lt) in e)
              (writes_more k fan all first (suc n) (length fan.list - suc n))

          sums : fanned_writes k fan first (suc n) + more ≡ total
          sums = let le = least in omega (arith, le)
