-- Whose turn an epoch is, and where a text stands.
use Rattle.std.specs.Prelude.{◌≡◌, ℕ, ◌%◌, ◌<◌, ◌≤◌, ◌==◌, ◌&&◌, Bool, if◌then◌else◌}
use Rattle.dr_base.specs.declared.position.Position.{Position}
use Rattle.dr_base.specs.declared.position.Side.{Side}
use Rattle.dr_base.specs.declared.position.Side.TheVariants.{First, Second}

-- the other party
abbrev pub peer_of : Side → Side
peer_of First = Second
peer_of Second = First

-- odd epochs are First's, even ones Second's
abbrev pub side_of : ℕ → Side
side_of epoch = if epoch % 2 == 1 then First else Second

-- an epoch is one of a side's own
abbrev pub is_own : Side → ℕ → Bool
is_own First epoch = epoch % 2 == 1
is_own Second epoch = epoch % 2 == 0

-- two positions are the same
abbrev pub is_at : Position → Position → Bool
is_at p q = (q.epoch == p.epoch) && (q.index == p.index)

-- the position with these numbers
abbrev pub position_at : ℕ → ℕ → Position
position_at epoch index = record { epoch = epoch; index = index }

-- p comes before q: not in a later epoch, and at a lower index where they share the epoch
abbrev pub IsBefore : Position → Position → Type 0
IsBefore p q = (p.epoch ≤ q.epoch) × (p.epoch ≡ q.epoch → p.index < q.index)

-- p stands at q or before it
abbrev pub IsUpTo : Position → Position → Type 0
IsUpTo q p = (p.epoch ≤ q.epoch) × (p.epoch ≡ q.epoch → p.index ≤ q.index)
