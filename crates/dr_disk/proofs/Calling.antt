-- How calls go, one after the other.
use Rattle.std.proofs.Common.{◌≡◌, ℕ, ◌+◌, refl, List, Some, Result, Ok, Err, true, false, sym, ◌∙◌, subst, arith}
use Rattle.std.specs.Prelude.{is_ok}
use Rattle.dr_base.specs.Causes.{Rose}
use Rattle.dr_disk.specs.declared.call.Call.{Call}
use Rattle.dr_disk.specs.State.{DiskState}
use Rattle.dr_disk.specs.Spans.{Span}
use Rattle.dr_disk.specs.Calls.{Goes, HasFault, ReadGoes}
use Rattle.dr_disk.specs.Called.{Called, Went, itself}
use Rattle.dr_disk.proofs.Fates.{all_go, all_read, failed_as_told, fails_as_told, fails_later, later_twice, read_fails_as_told, read_later}

no_ok : (T : Type 0) {E : Type 0} (e : E) (A : Type 0) → is_ok {T = T} (Err e) ≡ true → A
no_ok T e A ok = absurd (let f : false ≡ true = ok in cc)

-- one call that fails
pub fails : {T U E F : Type 0} (call_of : E → Call) (e : E) (f : F) (a b : DiskState) → Goes {T = U} a b (Err f)
    → HasFault {T = U} (call_of e) a b (Err f) → Went {T = T} call_of a b (Err e)
fails {T = T} {U = U} call_of e f a b goes cause = record {
  ended = fails_as_told {T = U} a b f goes;
  ahead = tt;
  fate = λ all. no_ok U f _ (all_go {T = U} a b (Err f) goes all).0;
  quiet = tt;
  fault = cause.failed;
}

pub read_fails : {T U E F : Type 0} (call_of : E → Call) (e : E) (f : F) (a b : DiskState) → ReadGoes {T = U} a b (Err f)
    → HasFault {T = U} (call_of e) a b (Err f) → Went {T = T} call_of a b (Err e)
read_fails {T = T} {U = U} call_of e f a b goes cause = record {
  ended = read_fails_as_told {T = U} a b f goes;
  ahead = tt;
  fate = λ all. no_ok U f _ (all_read {T = U} a b (Err f) goes all).0;
  quiet = tt;
  fault = cause.failed;
}

-- one call that passes
pub goes_well : {T U E F : Type 0} (call_of : E → Call) (call : Call) (x : T) (y : U) (a b : DiskState) → Goes {T = U} {E = F} a b (Ok y)
    → HasFault {T = U} {E = F} call a b (Ok y) → Went call_of a b (Ok x)
goes_well call_of call x y a b goes cause = record {
  ended = tt;
  ahead = fails_later a b y goes;
  fate = λ all. (refl, (all_go a b (Ok y) goes all).1);
  quiet = cause.quiet;
  fault = tt;
}

pub reads_well : {T U E F : Type 0} (call_of : E → Call) (call : Call) (x : T) (y : U) (a b : DiskState) → ReadGoes {T = U} {E = F} a b (Ok y)
    → HasFault {T = U} {E = F} call a b (Ok y) → Went call_of a b (Ok x)
reads_well call_of call x y a b goes cause = record {
  ended = tt;
  ahead = read_later a b (Ok y) goes;
  fate = λ all. (refl, (all_read a b (Ok y) goes all).1);
  quiet = cause.quiet;
  fault = tt;
}

-- no call
pub none_made : {T E : Type 0} (call_of : E → Call) (x : T) (a : DiskState) → Went call_of a a (Ok x)
none_made call_of x a = record {
  ended = tt;
  ahead = λ n told. (n, told);
  fate = λ all. (refl, all);
  quiet = λ call. refl;
  fault = tt;
}

-- an outcome in a caller's words
pub failed_as : {T U E D : Type 0} (first_of : D → Call) (call_of : E → Call) (d : D) (e : E) (a b : DiskState) → first_of d ≡ call_of e
    → Went {T = U} first_of a b (Err d) → Went {T = T} call_of a b (Err e)
failed_as {T = T} {U = U} first_of call_of d e a b same went = record {
  ended = went.ended;
  ahead = tt;
  fate = λ all. no_ok U d _ (went.fate all).0;
  quiet = tt;
  fault = subst (λ call. Rose (a.faults call) (b.faults call)) same went.fault;
}

pub passed_as : {T U D E : Type 0} (first_of : D → Call) (call_of : E → Call) (x : T) (y : U) (a b : DiskState) → Went first_of a b (Ok y) → Went call_of a b (Ok x)
passed_as first_of call_of x y a b went = record {
  ended = tt;
  ahead = went.ahead;
  fate = λ all. (refl, (went.fate all).1);
  quiet = went.quiet;
  fault = tt;
}

-- those that follow others that passed
pub then_failed : {T U V D C E : Type 0} (first_of : C → Call) (next_of : D → Call) (call_of : E → Call) (x : U) (d : D) (e : E) (a b c : DiskState) (P : List ℕ → Type 0)
    → next_of d ≡ call_of e → Span a b P → Went first_of a b (Ok x) → Went {T = V} next_of b c (Err d) → Went {T = T} call_of a c (Err e)
then_failed {T = T} {U = U} {V = V} first_of next_of call_of x d e a b c P same span first next = record {
  ended = failed_as_told a b c span.fates span.passes next.ended
      (λ all. no_ok V d _ (next.fate all).0);
  ahead = tt;
  fate = λ all. no_ok V d _ (next.fate (first.fate all).1).0;
  quiet = tt;
  fault = subst (λ call. Rose (a.faults call) (c.faults call)) same (subst (λ n. Rose n (c.faults (next_of d))) (first.quiet (next_of d)) next.fault);
}

pub then_passed : {T U V C D E : Type 0} (first_of : C → Call) (next_of : D → Call) (call_of : E → Call) (x : U) (y : V) (z : T) (a b c : DiskState)
    → Went first_of a b (Ok x) → Went next_of b c (Ok y) → Went call_of a c (Ok z)
then_passed first_of next_of call_of x y z a b c first next = record {
  ended = tt;
  ahead = later_twice a b c first.ahead next.ahead;
  fate = λ all. (refl, (next.fate (first.fate all).1).1);
  quiet = λ call. next.quiet call ∙ first.quiet call;
  fault = tt;
}

pub then_any : {T U : Type 0} (x : U) (a b c : DiskState) (P : List ℕ → Type 0) (r : Result T Call) → Span a b P → Went itself a b (Ok x) → Went itself b c r → Went itself a c r
then_any x a b c P (Ok y) span first next = then_passed itself itself itself x y y a b c first next
then_any {T = T} x a b c P (Err call) span first next = then_failed {T = T} {V = T} itself itself itself x call call a b c P refl span first next

-- the same, counted
pub once_failed : {U F : Type 0} (call : Call) (f : F) (a b : DiskState) → Goes {T = U} a b (Err f) → HasFault {T = U} call a b (Err f) → Called {T = U} 1 itself a b (Err call)
once_failed {U = U} call f a b goes cause = record {
  passed = tt;
  few = λ l m was is. let e : l ≡ m = let s : Some l ≡ Some m = sym was ∙ sym goes.failed ∙ is in cc in omega arith;
  went = fails {T = U} {U = U} itself call f a b goes cause;
}

pub once_passed : {U F : Type 0} (call : Call) (y : U) (a b : DiskState) → Goes {T = U} {E = F} a b (Ok y) → HasFault {T = U} {E = F} call a b (Ok y) → Called 1 itself a b (Ok y)
once_passed call y a b goes cause = record { passed = goes.passed; few = tt; went = goes_well itself call y y a b goes cause }

pub failed_at_first : {T U D E : Type 0} (n more : ℕ) (first_of : D → Call) (call_of : E → Call) (d : D) (e : E) (a b : DiskState) → first_of d ≡ call_of e
    → Called {T = U} n first_of a b (Err d) → Called {T = T} (n + more) call_of a b (Err e)
failed_at_first {T = T} {U = U} n more first_of call_of d e a b same called = record {
  passed = tt;
  few = λ l m was is. let less = called.few l m was is in omega (arith, less);
  went = failed_as {T = T} {U = U} first_of call_of d e a b same called.went;
}

pub failed_later : {T U V C D E : Type 0} (n more : ℕ) (first_of : C → Call) (next_of : D → Call) (call_of : E → Call) (x : U) (d : D) (e : E) (a b c : DiskState) (P Q : List ℕ → Type 0)
    → next_of d ≡ call_of e → Span a b P → Called n first_of a b (Ok x) → Span b c Q → Called {T = V} more next_of b c (Err d) → Called {T = T} (n + more) call_of a c (Err e)
failed_later {T = T} {U = U} {V = V} n more first_of next_of call_of x d e a b c P Q same span first more_span next = record {
  passed = tt;
  few = λ l m was is.
      let mid = more_span.passes m is in
      let one = first.passed mid.0 mid.1 in
      let s : l ≡ one.0 = let f : Some l ≡ Some one.0 = sym was ∙ one.1 in cc in
      let two = next.few mid.0 m mid.1 is in
      omega (arith, one.2, two);
  went = then_failed {T = T} {U = U} {V = V} first_of next_of call_of x d e a b c P same span first.went next.went;
}

pub passed_both : {T U V C D E : Type 0} (n more : ℕ) (first_of : C → Call) (next_of : D → Call) (call_of : E → Call) (x : U) (y : V) (z : T) (a b c : DiskState)
    → Called n first_of a b (Ok x) → Called more next_of b c (Ok y) → Called (n + more) call_of a c (Ok z)
passed_both n more first_of next_of call_of x y z a b c first next = record {
  passed = λ m told.
      let mid = next.passed m told in
      let was = first.passed mid.0 mid.1 in
      (was.0, was.1, omega (arith, mid.2, was.2));
  few = tt;
  went = then_passed first_of next_of call_of x y z a b c first.went next.went;
}
