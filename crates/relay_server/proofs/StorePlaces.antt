-- A list in which another element stands at a place, and the calls that its replacement made.
use Rattle.std.proofs.Common.{◌≡◌, ◌≢◌, ℕ, ◌<◌, zero, suc, List, [], ◌∷◌, length, Some, refl, ◌∙◌, ap, arith, sym, set}
use Rattle.std.specs.Prelude.{Err, Ok, slice_get}
use Rattle.dr_disk.specs.Called.{Called, itself}
use Rattle.dr_disk.specs.State.{DiskState}
use Rattle.dr_disk.specs.declared.call.Call.{Call}

-- the other one stands there
stands_now : {X : Type 0} (xs : List X) (place : ℕ) (x : X) → place < length xs → slice_get (set xs place x) place ≡ Some x
stands_now [] place x inside = absurd (omega (arith, inside))
stands_now (y ∷ ys) zero x inside = refl
stands_now (y ∷ ys) (suc p) x inside = stands_now ys p x (omega (arith, inside))

pub put_there : {X : Type 0} (xs : List X) (place : ℕ) (x new : X) → place < length xs → slice_get (set xs place x) place ≡ Some new → x ≡ new
put_there xs place x new inside now = let same : Some x ≡ Some new = sym (stands_now xs place x inside) ∙ now in cc

-- and all others stay
pub others_stay : {X : Type 0} (xs : List X) (place : ℕ) (x : X) (j : ℕ) → j ≢ place → slice_get (set xs place x) j ≡ slice_get xs j
others_stay [] place x j apart = refl
others_stay (y ∷ ys) zero x zero apart = absurd (apart refl)
others_stay (y ∷ ys) zero x (suc j) apart = refl
others_stay (y ∷ ys) (suc p) x zero apart = refl
others_stay (y ∷ ys) (suc p) x (suc j) apart = others_stay ys p x j (λ e. apart (ap suc e))

-- ---- the calls of one replacement, by the kind of the call that failed

pub called_ok : {T U E : Type 0} {value : T} {other : U} (n : ℕ) (call_of : E → Call) (start now : DiskState)
    → Called n call_of start now (Ok value) → Called n itself start now (Ok other)
called_ok n call_of start now called = record {
  passed = called.passed;
  few = tt;
  went = record { ended = tt; ahead = called.went.ahead; fate = called.went.fate; quiet = called.went.quiet; fault = tt };
}

pub called_err : {T U E : Type 0} (n : ℕ) (call_of : E → Call) (start now : DiskState) (fault : E)
    → Called {T = T} n call_of start now (Err fault) → Called {T = U} n itself start now (Err (call_of fault))
called_err n call_of start now fault called = record {
  passed = tt;
  few = called.few;
  went = record { ended = called.went.ended; ahead = tt; fate = called.went.fate; quiet = tt; fault = called.went.fault };
}
