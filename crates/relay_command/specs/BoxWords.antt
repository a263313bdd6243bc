-- What a word says of a box: its name, or its name, `=` and the keys of its guard, which are the
-- owner's, a comma and the poster's. A key is 64 hex digits of either case.
use Rattle.std.specs.Prelude.{ℕ, ◌&&◌, Bool, List, Option, Some, None, is_some, Result, Ok, Err}
use Rattle.dr_base.specs.declared.key.Key32.{Key32}
use Rattle.hex.specs.Hex.{decode_sized}
use Rattle.relay_core.specs.declared.spec.BoxKeys.{BoxKeys}
use Rattle.relay_core.specs.declared.spec.BoxSpec.{BoxSpec}
use Rattle.relay_wire.specs.Names.{is_name}
use Rattle.script_parts.specs.Parts.{halves_of}

-- ---- keys

abbrev pub key_of_bytes : {E : Type 0} → Result (List ℕ) E → Option Key32
key_of_bytes (Ok bytes) = Some (record { bytes = bytes })
key_of_bytes (Err e) = None

abbrev pub key_in : List ℕ → Option Key32
key_in digits = key_of_bytes (decode_sized digits 32)

abbrev pub both_keys : Option Key32 → Option Key32 → Option BoxKeys
both_keys None poster = None
both_keys (Some owner) None = None
both_keys (Some owner) (Some poster) = Some (record { owner = owner; poster = poster })

-- what stands before a comma and behind it
abbrev pub keys_of_halves : Option (List ℕ × List ℕ) → Option BoxKeys
keys_of_halves None = None
keys_of_halves (Some halves) = both_keys (key_in halves.0) (key_in halves.1)

abbrev pub comma : ℕ
comma = 44

unfoldable pub keys_in : List ℕ → Option BoxKeys
keys_in text = keys_of_halves (halves_of comma text)

-- ---- words

abbrev pub equals_sign : ℕ
equals_sign = 61

abbrev pub name_by : List ℕ → Option (List ℕ × List ℕ) → List ℕ
name_by word None = word
name_by word (Some halves) = halves.0

-- what stands before the first `=`, where there is one
unfoldable pub name_in : List ℕ → List ℕ
name_in word = name_by word (halves_of equals_sign word)

abbrev pub spec_by : List ℕ → Option (List ℕ × List ℕ) → BoxSpec
spec_by word None = record { name = word; keys = None }
spec_by word (Some halves) = record { name = halves.0; keys = keys_in halves.1 }

-- what the box is made by
unfoldable pub spec_in : List ℕ → BoxSpec
spec_in word = spec_by word (halves_of equals_sign word)

abbrev pub says_by : List ℕ → Option (List ℕ × List ℕ) → Bool
says_by word None = is_name word
says_by word (Some halves) = is_name halves.0 && is_some (keys_in halves.1)

-- the name is lawful, and behind an `=` stand two keys
unfoldable pub says_box : List ℕ → Bool
says_box word = says_by word (halves_of equals_sign word)
