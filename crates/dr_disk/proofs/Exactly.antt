-- Where a call that makes so many writes and syncs fails: exactly where fewer were told to pass.
use Rattle.std.proofs.Common.{◌≡◌, ⊎_elim, ℕ, ◌+◌, ◌<◌, ◌≤◌, List, Some, None, Result, Ok, Err, false, sym, ◌∙◌, ap, arith}
use Rattle.std.specs.Prelude.{is_ok, nat_le}
use Rattle.std.proofs.lemmas.Bool.{le-leb}
use Rattle.std.proofs.lemmas.Bool.Decides.{nat_tests}
use Rattle.dr_disk.specs.declared.call.Call.{Call}
use Rattle.dr_disk.specs.State.{DiskState, to_failure}
use Rattle.dr_disk.specs.Spans.{FailsLater, HasFailedAsTold, HaveGone, HavePassed, Span}
use Rattle.dr_disk.specs.Called.{Called}

module _ (calls n : ℕ) (a b : DiskState) (told : to_failure a.fate ≡ Some n) where
  -- one that passed
  pub enough : HaveGone a b → FailsLater a b → HavePassed calls a b → (m : ℕ) → b.passed ≡ Some m
      → calls ≤ n
  enough gone later passed m is =
      let one = passed m is in
      let left = later n told in
      ⊎_elim (λ ahead. omega (arith, one.2, ahead.counted one.0 m one.1 is))
      (λ over. absurd (let e : None ≡ Some left.0 = sym (ap to_failure over.fate) ∙ left.1 in cc))
      (gone n told)

  -- one that failed
  pub too_few : HasFailedAsTold a b
      → ((l m : ℕ) → a.passed ≡ Some l → b.passed ≡ Some m → m < l + calls) → n < calls
  too_few failed few =
      let end = failed n told in
      omega (arith, few end.1 (end.1 + n) end.2 end.3)

  short : n < calls → false ≡ nat_le calls n
  short few = grind (arith, nat_tests)

  pub fails_exactly : {T E : Type 0} (call_of : E → Call) (P : List ℕ → Type 0) (r : Result T E)
      → Span a b P → Called calls call_of a b r → (m : ℕ) → b.passed ≡ Some m
      → is_ok r ≡ nat_le calls n
  fails_exactly call_of P (Ok x) span called m is =
      sym (le-leb calls n (enough span.fates called.went.ahead called.passed m is))
  fails_exactly call_of P (Err e) span called m is = short (too_few called.went.ended called.few)
