-- What a command reads from the source.
use Rattle.std.specs.Prelude.{Err, IfSome, List, None, Ok, Option, Result, Some, [], drop, get_or, if◌then◌else◌, length, nat_le, option_map, take, ℕ, ◌&&◌, ◌+◌, ◌-◌, ◌/◌, ◌<◌, ◌==◌, ◌≡◌, ◌≤◌}
use Rattle.dr_base.specs.Causes.{Rose}
use Rattle.dr_ports.specs.Reading.{GaveAtMost}
use Rattle.dr_ports.specs.States.{SourceState}
use Rattle.endings.specs.declared.ending.Ending.{Ending}
use Rattle.endings.specs.declared.ending.Ending.TheVariants.{InputTooLong, NoMemory, ReadFault}
use Rattle.hex.specs.Hex.{decode_sized}

-- without one line feed at the end
unfoldable pub stripped : List ℕ → List ℕ
stripped bytes =
    if nat_le 1 (length bytes) && (get_or bytes (length bytes - 1) 0 == 10) then take (length bytes - 1) bytes else bytes

-- the bytes, where there are some
abbrev pub where_ok : {E : Type 0} → Result (List ℕ) E → Option (List ℕ)
where_ok (Ok bytes) = Some bytes
where_ok (Err e) = None

-- the packet that the source's text is, in hex digits
unfoldable pub packet_in_hex : List ℕ → Option (List ℕ)
packet_in_hex text = where_ok (decode_sized (stripped text) (length (stripped text) / 2))

-- the key that it is
unfoldable pub key_in_hex : List ℕ → Option (List ℕ)
key_in_hex text = where_ok (decode_sized (stripped text) 32)

-- the text itself: none is bad
abbrev pub whole_text : List ℕ → Option (List ℕ)
whole_text text = Some text

-- All was read, and is this value. The source stood as `from` says and stands as `to` does.
pub record IsInput (limit : ℕ) (parse : List ℕ → Option (List ℕ)) (from to : SourceState)
    (value : List ℕ) : Type 0 where
  pub text : IfSome from.left (λ text. (length text ≤ limit) × (parse text ≡ Some value))
  pub drained : IfSome to.left (λ rest. rest ≡ [])
  pub quiet : to.faults ≡ from.faults

-- Why there is no value, by how the command then ends.
pub data IsNoInput (limit : ℕ) (parse : List ℕ → Option (List ℕ)) (bad : Ending)
    (from to : SourceState)
    : Ending → Type 0 where
  -- nothing was read
  had_no_memory : to.left ≡ from.left → to.faults ≡ from.faults
      → IsNoInput limit parse bad from to NoMemory
  read_failed : GaveAtMost (limit + 1) from.left to.left → Rose from.faults to.faults
      → IsNoInput limit parse bad from to ReadFault
  -- one byte past the limit was read
  is_too_long : IfSome from.left (λ text. limit < length text)
      → to.left ≡ option_map (drop (limit + 1)) from.left → to.faults ≡ from.faults
      → IsNoInput limit parse bad from to (InputTooLong limit)
  is_bad : IfSome from.left (λ text. (length text ≤ limit) × (parse text ≡ None))
      → IfSome to.left (λ rest. rest ≡ []) → to.faults ≡ from.faults
      → IsNoInput limit parse bad from to bad

-- the value, or how the command ends
abbrev pub GivesInput : {V : Type 0} → (V → List ℕ) → ℕ → (List ℕ → Option (List ℕ)) → Ending
    → SourceState → SourceState → Result V Ending → Type 0
GivesInput bytes limit parse bad from to (Ok value) = IsInput limit parse from to (bytes value)
GivesInput bytes limit parse bad from to (Err ending) = IsNoInput limit parse bad from to ending

-- with that, the count of the reads doesn't fall
pub record ReadsInput {V : Type 0} (bytes : V → List ℕ) (limit : ℕ)
    (parse : List ℕ → Option (List ℕ)) (bad : Ending) (from to : SourceState)
    (result : Result V Ending) : Type 0 where
  pub input : GivesInput bytes limit parse bad from to result
  pub later : from.faults ≤ to.faults
