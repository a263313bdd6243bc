-- A name in its room.
use Rattle.std.proofs.Common.{List, ap, drop, length, replicate, sym, take, ℕ, ◌++◌, ◌-◌, ◌≡◌, ◌≤◌}
use Rattle.std.proofs.lemmas.List.{drop-replicate, take_all}
use Rattle.relay_wire.specs.declared.limits.TheConstants.{NAME_LIMIT}

-- a name and the zeros that its room had behind it
pub name_filled : (name : List ℕ) → length name ≤ NAME_LIMIT
    → name ++ drop (length name) (replicate NAME_LIMIT 0)
    ≡ name ++ replicate (NAME_LIMIT - length name) 0
name_filled name fits =
    ap (λ (zeros : List ℕ). name ++ zeros) (drop-replicate (length name) NAME_LIMIT 0)

-- a room that is shown whole
pub all_shown : (bytes : List ℕ) (len : ℕ) → length bytes ≤ len → bytes ≡ take len bytes
all_shown bytes len le = sym (take_all len bytes le)
