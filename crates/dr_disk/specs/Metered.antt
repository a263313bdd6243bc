-- What a disk in memory is told of its writes and syncs, and what it counts of them.
use Rattle.std.specs.Prelude.{◌≡◌, ◌+◌, ◌-◌, ◌<◌, ◌^◌, ℕ, Some}
use Rattle.dr_disk.specs.State.{Fate, all_but, all_pass, some_pass, to_failure}
use Rattle.dr_disk.specs.declared.plan.Plan.{Plan}
use Rattle.dr_disk.specs.declared.plan.Plan.TheVariants.{Failing, Passing, Stopping}

-- how the next ones go, and how many have passed
pub record Metered : Type 0 where
  pub fate : Fate
  pub passed : ℕ

abbrev pub fate_of : Plan → Fate
fate_of Passing = all_pass
fate_of (Stopping left) = some_pass left
fate_of (Failing left) = all_but left

-- while one is told to fail, the count of those that passed doesn't come to its end
abbrev pub IsCounted : Fate → ℕ → Type 0
IsCounted fate passed = (left : ℕ) → to_failure fate ≡ Some left → passed + left < 2 ^ 64 - 1
