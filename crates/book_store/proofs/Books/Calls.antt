-- Calls on a disk, in the words of a store.
use Rattle.std.proofs.Common.{◌≡◌, ℕ, ◌+◌, ◌<◌, Ok, Err, subst}
use Rattle.dr_disk.specs.declared.call.Call.{Call}
use Rattle.dr_disk.specs.State.{DiskState}
use Rattle.dr_disk.specs.Spans.{HavePassed}
use Rattle.dr_disk.specs.Called.{Called, itself}
use Rattle.dr_disk.proofs.Calling.{failed_as, passed_as}
use Rattle.book_store.specs.Committing.{call_of}
use Rattle.book_store.specs.declared.errors.StoreFault.{StoreFault}

pub called_err : {T U : Type 0} (n m : ℕ) (call : Call) (e : StoreFault) (a b : DiskState) → n ≡ m
    → call ≡ call_of e → Called {T = U} n itself a b (Err call) → Called {T = T} m call_of a b (Err e)
called_err {T = T} {U = U} n m call e a b same is called = record {
  passed = tt;
  few = λ l k was now. subst (λ x. k < l + x) same (called.few l k was now);
  went = failed_as {T = T} {U = U} itself call_of call e a b is called.went;
}

pub called_ok : {T U : Type 0} (n m : ℕ) (x : U) (y : T) (a b : DiskState) → n ≡ m
    → Called n itself a b (Ok x) → Called m call_of a b (Ok y)
called_ok n m x y a b same called = record {
  passed = subst (λ k. HavePassed k a b) same called.passed;
  few = tt;
  went = passed_as itself call_of y x a b called.went;
}
