-- What is known where a reader in parts gave a value.
use Rattle.std.proofs.Common.{◌≡◌, ℕ, Bool, true, false, Result, Ok, Err, refl, if◌then◌else◌}
use Rattle.grammar.specs.Reader.{Read, Reader, and_then}

-- the first part gave a value, and the next one went on from there
pub from_and_then : {A B : Type 0} (r : Result (Read A) ℕ) (next : A → Reader B) (y : Read B) → and_then r next ≡ Ok y
    → (x : Read A) × (r ≡ Ok x) × (next x.value x.at x.rest ≡ Ok y)
from_and_then (Ok x) next y h = (x, refl, h)
from_and_then (Err at) next y h = absurd (let e : Err at ≡ Ok y = h in cc)

-- the test was passed
pub from_test : {A E : Type 0} (test : Bool) (x y : A) (e : E) → (if test then Ok x else Err e) ≡ Ok y → (test ≡ true) × (x ≡ y)
from_test true x y e h = (refl, cc)
from_test false x y e h = absurd (let wrong : Err e ≡ Ok y = h in cc)
