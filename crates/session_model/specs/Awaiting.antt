-- A side's own texts that wait until a receipt of the other side covers them.
use Rattle.std.specs.Prelude.{◌≡◌, ◌≤◌, ℕ, ⊤, true, not, nat_le, List, [], ◌∷◌, ◌++◌, All, AllPairs, length, drop, filter, Option, if◌then◌else◌}
use Rattle.bodies.specs.Receipts.{Receipt, is_covered}
use Rattle.dr_base.specs.Position.{IsBefore, is_own}
use Rattle.dr_base.specs.declared.limits.TheConstants.{AWAITING_LIMIT, INDEX_LIMIT}
use Rattle.dr_base.specs.declared.position.Position.{Position}
use Rattle.dr_base.specs.declared.position.Side.{Side}
use Rattle.session_model.specs.States.{Phase, in_own, in_peers}

-- one more waits; where as many wait as may, the oldest is given up
unfoldable pub waiting_with : List Position → Position → List Position
waiting_with awaiting p =
    (if nat_le AWAITING_LIMIT (length awaiting) then drop 1 awaiting else awaiting) ++ p ∷ []

-- those that a receipt doesn't cover wait on
unfoldable pub still_waiting : Option Receipt → List Position → List Position
still_waiting receipt awaiting = filter (λ p. not (is_covered receipt p)) awaiting

-- in the own epoch that stands, no more was said than was sent
abbrev pub IsSent : ℕ → Phase → Position → Type 0
IsSent epoch (in_own own) p = p.epoch ≡ epoch → p.index ≤ own.sent
IsSent epoch (in_peers public) p = ⊤

-- a text that the side has said, as far as it knows of its last epoch
pub record IsWaiting (side : Side) (epoch : ℕ) (phase : Phase) (p : Position) : Type 0 where
  pub own : is_own side p.epoch ≡ true
  pub reached : p.epoch ≤ epoch
  pub one : 1 ≤ p.index
  pub most : p.index ≤ INDEX_LIMIT
  pub sent : IsSent epoch phase p

-- texts that may wait, in the order that they were said
pub record AreWaiting (side : Side) (epoch : ℕ) (phase : Phase) (awaiting : List Position) : Type 0 where
  pub each : All (IsWaiting side epoch phase) awaiting
  pub ascending : AllPairs IsBefore awaiting
  pub few : length awaiting ≤ AWAITING_LIMIT
