-- The table of the keys that were passed over, for texts that are still to come.
use Rattle.std.specs.Prelude.{◌≡◌, ℕ, zero, suc, ◌+◌, Bool, not, List, [], ◌∷◌, ◌++◌, Option, All, AllPairs, filter, find, option_map}
use Rattle.dr_base.specs.declared.key.Kept.{Kept}
use Rattle.dr_base.specs.declared.position.Position.{Position}
use Rattle.dr_base.specs.Position.{IsBefore, is_at}
use Rattle.fs_aead.specs.Chain.{message_key}

-- each key's position comes before those of all later ones
abbrev pub IsAscending : List Kept → Type 0
IsAscending keys = AllPairs (λ a b. IsBefore a.position b.position) keys

-- the positions of all keys come before this one
abbrev pub AllBefore : List Kept → Position → Type 0
AllBefore keys p = All (λ kept. IsBefore kept.position p) keys

-- whether a key is the one of a position
abbrev pub is_kept_at : Position → Kept → Bool
is_kept_at p kept = is_at p kept.position

-- the message key that is kept under a position
unfoldable pub kept_key : List Kept → Position → Option (List ℕ)
kept_key keys p = option_map (λ kept. kept.key.bytes) (find (is_kept_at p) keys)

-- the table without the key of a position
unfoldable pub without : List Kept → Position → List Kept
without keys p = filter (λ kept. not (is_kept_at p kept)) keys

-- the keys of an epoch that a stream passes in n steps, where its chain key gives the key after the index `reach`
unfoldable pub shelved : ℕ → List ℕ → ℕ → ℕ → List Kept
shelved epoch chain reach zero = []
shelved epoch chain reach (suc n) = shelved epoch chain reach n ++ record {
  position = record { epoch = epoch; index = reach + suc n };
  key = record { bytes = message_key chain (suc n) };
} ∷ []
