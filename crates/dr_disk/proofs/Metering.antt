-- How the calls of a disk in memory go.
use Rattle.std.proofs.Common.{◌≡◌, inl, inr, ℕ, ◌+◌, ◌≤◌, Bool, true, false, List, length, Some, Ok, Err, refl, sym, ◌∙◌, ap, arith}
use Rattle.dr_disk.specs.declared.call.Call.{Call}
use Rattle.dr_disk.specs.State.{DiskState, Fate, to_failure}
use Rattle.dr_disk.specs.Spans.{GoesBy, HaveGone}
use Rattle.dr_disk.specs.Calls.{Goes, after_call, passes_next}
use Rattle.dr_disk.specs.Memory.{Counts, count_of, memory_state, told_count}
use Rattle.dr_disk.proofs.Fates.{fault_gone, one_gone}
use Rattle.dr_disk.proofs.Passing.{counted}

-- a write or a sync
module _ (bytes bytes' durable durable' asked asked' : List ℕ) (marks marks' : List Bool)
    (fate fate' : Fate) (passed passed' : ℕ) (counts counts' : Counts)
    (goes : fate' ≡ after_call fate) where
  abbrev a : DiskState
  a = memory_state bytes durable asked marks fate passed counts

  abbrev b : DiskState
  b = memory_state bytes' durable' asked' marks' fate' passed' counts'

  abbrev NoLess : Type 0
  NoLess = (call : Call) → count_of counts call ≤ count_of counts' call

  -- what doesn't depend on whether it passed
  span : HaveGone a b → length bytes' ≡ length bytes → NoLess → passed ≤ passed' → GoesBy a b
  span fates same faults later = record {
    size = same;
    counts = faults;
    later = omega arith;
    passes = λ m told. counted passed passed' m later told;
    keeps = refl;
    fates = fates;
    all = λ is. goes ∙ ap after_call is;
    told = λ s is. (bytes', refl);
    each = λ t c le none. inl none;
    last = λ c left. inr left;
  }

  module _ (told : (n : ℕ) → to_failure fate ≡ Some n → told_count passed' ≡ Some passed')
      (result : Bool) (tells : passes_next fate ≡ Some result) where
    -- one that passes
    module _ (passes : result ≡ true)
        (one : (m : ℕ) → told_count passed' ≡ Some m
        → (l : ℕ) × (told_count passed ≡ Some l) × (m ≡ l + 1)) where
      pub passing : length bytes' ≡ length bytes → NoLess → passed ≤ passed' → GoesBy a b
      passing same faults later =
          span (one_gone a b (tells ∙ ap Some passes) goes one) same faults later

      pub well : {T E : Type 0} (x : T) → Goes {E = E} a b (Ok x)
      well x = record {
        passed = one;
        failed = tt;
        keeps = refl;
        fate = goes;
        counted = λ n is. (passed', told n is);
        told = λ p is. let same : Some true ≡ Some p = ap Some (sym passes) ∙ sym tells ∙ is in cc;
      }

    -- one that fails
    module _ (fails : result ≡ false) (stays : passed' ≡ passed) where
      pub failing : length bytes' ≡ length bytes → NoLess → GoesBy a b
      failing same faults =
          span (fault_gone a b (tells ∙ ap Some fails) goes (ap told_count stays)) same faults
          (omega (arith, stays))

      pub badly : {T E : Type 0} (e : E) → Goes {T = T} a b (Err e)
      badly e = record {
        passed = tt;
        failed = ap told_count stays;
        keeps = refl;
        fate = goes;
        counted = λ n is. (passed', told n is);
        told = λ p is. let same : Some false ≡ Some p = ap Some (sym fails) ∙ sym tells ∙ is in cc;
      }
