-- What callers are told of a book that couldn't be opened.
use Rattle.std.proofs.Common.{◌≡◌, ℕ, List, Option, Err, subst, arith}
use Rattle.dr_base.specs.Causes.{Rose}
use Rattle.dr_disk.specs.declared.call.Call.{Call}
use Rattle.dr_disk.specs.State.{DiskState}
use Rattle.dr_disk.specs.Called.{Went, itself}
use Rattle.pages.specs.Counted.{MakesAtMost, one_of}
use Rattle.pages.proofs.Counting.{few_failed}
use Rattle.book_store.specs.Counts.{faulted, openings}
use Rattle.book_store.specs.Opened.{IsBookRefused}
use Rattle.book_store.specs.declared.errors.BookOpenError.TheVariants.{DamagedRow, DamagedTable, Memory, StoreFault}

-- a call that failed
pub refused_by : {T : Type 0} (fault_at : List ℕ → Option ℕ) (rows : ℕ) (start now : DiskState) (call : Call)
    → Went {T = T} itself start now (Err call) → IsBookRefused fault_at rows start now (StoreFault call)
refused_by fault_at rows start now call went = record {
  table = λ table at is. absurd (let e : StoreFault call ≡ DamagedTable table at = is in cc);
  row = λ row at is. absurd (let e : StoreFault call ≡ DamagedRow row at = is in cc);
  fault = λ other is. let e : call ≡ other = cc in subst (λ x. Rose (start.faults x) (now.faults x)) e went.fault;
  ended = λ other is. went.ended;
}

-- there was no memory
pub refused_none : (fault_at : List ℕ → Option ℕ) (rows : ℕ) (start now : DiskState) → IsBookRefused fault_at rows start now Memory
refused_none fault_at rows start now = record {
  table = λ table at is. absurd (let e : Memory ≡ DamagedTable table at = is in cc);
  row = λ row at is. absurd (let e : Memory ≡ DamagedRow row at = is in cc);
  fault = λ call is. absurd (let e : Memory ≡ StoreFault call = is in cc);
  ended = λ call is. absurd (let e : Memory ≡ StoreFault call = is in cc);
}

pub faulted_few : {T U : Type 0} (rows : ℕ) (call : Call) (start now : DiskState)
    → MakesAtMost {T = U} 1 one_of start now (Err call)
    → MakesAtMost {T = T} (openings rows) faulted start now (Err (StoreFault call))
faulted_few {T = T} {U = U} rows call start now few = record {
  told = (few_failed {T = T} {U = U} 1 (openings rows) call start now (omega arith) few).told;
}

pub memory_few : {T : Type 0} (rows : ℕ) (start : DiskState)
    → MakesAtMost {T = T} (openings rows) faulted start start (Err Memory)
memory_few rows start = record { told = λ m is. (m, is, omega arith) }
