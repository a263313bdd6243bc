-- What stands under a name.
use Rattle.std.specs.Prelude.{List, Some, ℕ, ◌≡◌}
use Rattle.book_model.specs.Rows.{Rows, under}
use Rattle.session_model.specs.Clients.{Client}

-- the session of a name is such a one
abbrev pub IsUnder : List ℕ → Rows Client → (Client → Type 0) → Type 0
IsUnder name rows P = (kept : Client) × (under name rows ≡ Some kept) × P kept
