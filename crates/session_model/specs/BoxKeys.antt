-- The keys of a session's two boxes at a relay: for each box its owner's and its poster's. Box 1 is First's, box 2 is
-- Second's. No message key follows from them, and they follow from no key that a session keeps.
use Rattle.std.specs.Prelude.{List, None, Option, Some, codes, drop, length, replicate, take, ⊤, ℕ, ◌++◌, ◌≡◌}
use Rattle.hmac_hkdf.specs.Hkdf.{expand_of, extract_of}
use Rattle.session_model.specs.declared.relay_keys.RelayKeys.{RelayKeys}
use Rattle.session_model.specs.declared.relay_keys.TheConstants.{RELAY_KEYS_SIZE}

-- one after the other: owner and poster of box 1, then of box 2
abbrev pub relay_bytes : RelayKeys → List ℕ
relay_bytes keys =
    keys.first_owner.bytes ++ (keys.first_poster.bytes ++ (keys.second_owner.bytes ++ keys.second_poster.bytes))

abbrev pub relay_keys_at : List ℕ → RelayKeys
relay_keys_at bytes = record {
  first_owner = record { bytes = take 32 bytes };
  first_poster = record { bytes = take 32 (drop 32 bytes) };
  second_owner = record { bytes = take 32 (drop 64 bytes) };
  second_poster = record { bytes = take 32 (drop 96 bytes) };
}

-- their bytes follow from the shared key, under a label of their own
unfoldable pub relay_begun : List ℕ → List ℕ
relay_begun key = expand_of (extract_of (replicate 32 0) key) (codes "dr relay") RELAY_KEYS_SIZE

-- the keys of the session that a shared key begins
abbrev pub relay_keys_of : List ℕ → RelayKeys
relay_keys_of key = relay_keys_at (relay_begun key)

-- each key has 32 bytes
pub record AreLongKeys (keys : RelayKeys) : Type 0 where
  pub first_owner : length keys.first_owner.bytes ≡ 32
  pub first_poster : length keys.first_poster.bytes ≡ 32
  pub second_owner : length keys.second_owner.bytes ≡ 32
  pub second_poster : length keys.second_poster.bytes ≡ 32

-- those of a session that may have none
abbrev pub HasLongKeys : Option RelayKeys → Type 0
HasLongKeys None = ⊤
HasLongKeys (Some keys) = AreLongKeys keys
