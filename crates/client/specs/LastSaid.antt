-- Where a session's latest own text stands.
use Rattle.std.specs.Prelude.{None, Option, Some, if◌then◌else◌, ℕ, ◌-◌, ◌==◌}
use Rattle.dr_base.specs.Position.{position_at}
use Rattle.dr_base.specs.declared.position.Position.{Position}
use Rattle.session_model.specs.States.{Own, Phase, State, in_own, in_peers}

-- the last of so many texts of an epoch
abbrev pub last_of : ℕ → ℕ → Option Position
last_of epoch count = if count == 0 then None else Some (position_at epoch count)

-- in a peer's epoch it is in the own one before, where there is one
abbrev pub last_in : ℕ → ℕ → Phase → Option Position
last_in epoch previous (in_own own) = last_of epoch own.sent
last_in epoch previous (in_peers public) = if epoch == 0 then None else last_of (epoch - 1) previous

abbrev pub last_said : State → Option Position
last_said s = last_in s.epoch s.previous s.phase
