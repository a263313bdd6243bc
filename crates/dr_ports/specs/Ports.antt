-- What a port tells of itself: a count of faults, and, where it can, what it holds or has taken.
use Rattle.std.specs.Prelude.{ℕ, List, ◌++◌, Option, option_map}
pub use Rattle.dr_base.specs.Causes.{one_more, Rose, HasCause}

-- what is taken once these bytes came after it, where that is told
abbrev pub appended : Option (List ℕ) → List ℕ → Option (List ℕ)
appended told bytes = option_map (λ taken. taken ++ bytes) told

-- what was left while these bytes stood before it, where that is told
abbrev pub prepended : List ℕ → Option (List ℕ) → Option (List ℕ)
prepended bytes told = option_map (λ left. bytes ++ left) told
