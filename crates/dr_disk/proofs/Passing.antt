-- Counts of calls in memory.
use Rattle.std.proofs.Common.{◌≡◌, ℕ, ◌+◌, ◌-◌, ◌^◌, ◌<◌, ◌≤◌, min, Bool, true, false, Some, None, refl, ap, arith, if◌then◌else◌}
use Rattle.std.specs.Prelude.{nat_lt}
use Rattle.std.proofs.lemmas.Bool.Decides.{nat_tests}
use Rattle.dr_disk.specs.declared.call.Call.{Call}
use Rattle.dr_disk.specs.declared.call.Call.TheVariants.{Read, Write, Sync}
use Rattle.dr_disk.specs.Memory.{Counts, count_of, told_count}

-- a count that is told later is told before
pub counted : (p p' m : ℕ) → p ≤ p' → told_count p' ≡ Some m → (l : ℕ) × (told_count p ≡ Some l) × (l ≤ m)
counted p p' m on told = by (nat_lt p' (2 ^ 64 - 1)) refl told
  where
    by : (t : Bool) → nat_lt p' (2 ^ 64 - 1) ≡ t → (if t then Some p' else None) ≡ Some m → (l : ℕ) × (told_count p ≡ Some l) × (l ≤ m)
    by true is h =
        let same : p' ≡ m = cc in
        let low : nat_lt p (2 ^ 64 - 1) ≡ true = grind (arith, nat_tests) in
        (p, ap (λ t. if t then Some p else None) low, omega arith)
    by false is h = absurd (let e : None ≡ Some m = h in cc)

pub one_passed : (p p' m : ℕ) → p' ≡ min (p + 1) (2 ^ 64 - 1) → told_count p' ≡ Some m → (l : ℕ) × (told_count p ≡ Some l) × (m ≡ l + 1)
one_passed p p' m is told = by (nat_lt p' (2 ^ 64 - 1)) refl told
  where
    by : (t : Bool) → nat_lt p' (2 ^ 64 - 1) ≡ t → (if t then Some p' else None) ≡ Some m → (l : ℕ) × (told_count p ≡ Some l) × (m ≡ l + 1)
    by true lt h =
        let same : p' ≡ m = cc in
        let small : p' < 2 ^ 64 - 1 = grind (arith, nat_tests) in
        let low : nat_lt p (2 ^ 64 - 1) ≡ true = grind (arith, nat_tests) in
        (p, ap (λ t. if t then Some p else None) low, omega arith)
    by false lt h = absurd (let e : None ≡ Some m = h in cc)

pub counts_grow : (old new : Counts) → old.reads ≤ new.reads → old.writes ≤ new.writes → old.syncs ≤ new.syncs → (call : Call) → count_of old call ≤ count_of new call
counts_grow old new reads writes syncs Read = reads
counts_grow old new reads writes syncs Write = writes
counts_grow old new reads writes syncs Sync = syncs
