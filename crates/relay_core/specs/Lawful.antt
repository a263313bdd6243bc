-- Boxes that a relay may have.
use Rattle.std.specs.Prelude.{◌≡◌, ⊤, true, ℕ, ◌^◌, ◌<◌, ◌≤◌, List, [], ◌∷◌, length, All, Option, Some, None, Result, Ok, Err}
use Rattle.relay_core.specs.declared.limits.TheConstants.{BOX_LIMIT}
use Rattle.relay_core.specs.Boxes.{Kept, Box}
use Rattle.relay_guard.specs.declared.guard.Guard.{Guard}
use Rattle.relay_wire.specs.Replies.{is_bad_kind}
use Rattle.relay_wire.specs.Requests.{Asked, IsLawfulAsked}
use Rattle.relay_wire.specs.Names.{is_name, is_packet}

-- the numbers rise from above `low`, and none is above `last`
abbrev pub Rises : ℕ → ℕ → List Kept → Type 0
Rises low last [] = low ≤ last
Rises low last (kept ∷ more) = (low < kept.number) × Rises kept.number last more

-- the number of the last packet, or `low` where there is none
abbrev pub last_number : ℕ → List Kept → ℕ
last_number low [] = low
last_number low (kept ∷ more) = last_number kept.number more

-- keys of 32 bytes, and counters of eight
pub record IsLawfulGuard (guard : Guard) : Type 0 where
  pub owner : length guard.owner.bytes ≡ 32
  pub poster : length guard.poster.bytes ≡ 32
  pub owner_last : guard.owner_last < 2 ^ 64
  pub poster_last : guard.poster_last < 2 ^ 64

abbrev pub HasLawfulGuard : Option Guard → Type 0
HasLawfulGuard None = ⊤
HasLawfulGuard (Some guard) = IsLawfulGuard guard

pub record IsLawfulBox (box : Box) : Type 0 where
  pub named : is_name box.name ≡ true
  pub numbered : box.last < 2 ^ 64
  pub count : length box.packets ≤ BOX_LIMIT
  pub rises : Rises 0 box.last box.packets
  pub packets : All (λ kept. is_packet kept.packet ≡ true) box.packets
  pub guard : HasLawfulGuard box.guard

-- ---- what may be asked

-- a lawful request, or one of the kinds of what is wrong
abbrev pub IsLawfulRead : Result Asked ℕ → Type 0
IsLawfulRead (Ok asked) = IsLawfulAsked asked
IsLawfulRead (Err kind) = is_bad_kind kind ≡ true
