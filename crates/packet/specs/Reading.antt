-- Reading a packet from left to right. A field is its value and the bytes after it, or the first fault.
use Rattle.std.specs.Prelude.{◌≡◌, ℕ, ◌+◌, ◌==◌, ◌&&◌, ◌||◌, Bool, nat_lt, nat_le, List, length, take, drop, Result, Ok, Err, if◌then◌else◌}
use Rattle.std.specs.Int.{Width, w8, w16, w32, byte_len, from_be_bytes}
use Rattle.dr_base.specs.declared.limits.TheConstants.{INDEX_LIMIT, LAST_EPOCH, PACKET_FRAME}
use Rattle.packet.specs.declared.fault.Kind.{Kind}
use Rattle.packet.specs.declared.fault.Kind.TheVariants.{Version, Epoch, Previous, Index, Agreement, Text, Short, Long}
use Rattle.packet.specs.declared.fault.Malformed.{Malformed}
use Rattle.packet.specs.Packet.{Fields, agreement_len}
pub use Rattle.packet.specs.Versions.{is_text_len, is_version}

-- the next step, unless there was a fault
infixl 10 ◌>>=◌
abbrev pub ◌>>=◌ : {A B : Type 0} → Result A Malformed → (A → Result B Malformed) → Result B Malformed
(Ok x) >>= next = next x
(Err fault) >>= next = Err fault

-- a fault of a kind at a place
abbrev pub fault : {A : Type 0} → ℕ → Kind → Result A Malformed
fault at kind = Err (record { at = at; kind = kind })

-- a field of this many bytes, at a place, unless the bytes end inside it
unfoldable pub field : ℕ → ℕ → List ℕ → Result (List ℕ × List ℕ) Malformed
field at size bytes = if nat_le size (length bytes) then Ok (take size bytes, drop size bytes) else fault at Short

-- a field that is a number, big-endian
unfoldable pub number : Width → ℕ → List ℕ → Result (ℕ × List ℕ) Malformed
number w at bytes = do
  f ← field at (byte_len w) bytes
  Ok (from_be_bytes w f.0, f.1)

-- a number that passes a test, or else is a fault of a kind
unfoldable pub lawful : Width → ℕ → Kind → (ℕ → Bool) → List ℕ → Result (ℕ × List ℕ) Malformed
lawful w at kind test bytes = do
  n ← number w at bytes
  if test n.0 then Ok n else fault at kind

-- an epoch is any number but the greatest
abbrev pub is_epoch : ℕ → Bool
is_epoch n = nat_le n LAST_EPOCH

-- a previous count is at most that of an epoch, and 0 in the first epoch of each side
abbrev pub is_previous : ℕ → ℕ → Bool
is_previous epoch n = nat_le n INDEX_LIMIT && (nat_lt 1 epoch || n == 0)

-- an index is from 1 to the greatest
abbrev pub is_index : ℕ → Bool
is_index n = nat_le 1 n && nat_le n INDEX_LIMIT

-- nothing may stand after the tag
abbrev pub ended : ℕ → List ℕ → Fields → Result Fields Malformed
ended at rest f = if length rest == 0 then Ok f else fault at Long

-- the fields of the bytes, where agreement messages have this length, or the first fault
unfoldable pub read_packet : ℕ → List ℕ → Result Fields Malformed
read_packet agreement bytes = do
  version ← lawful w8 0 Version is_version bytes
  session ← field 1 16 version.1
  epoch ← lawful w32 17 Epoch is_epoch session.1
  previous ← lawful w32 21 Previous (is_previous epoch.0) epoch.1
  index ← lawful w32 25 Index is_index previous.1
  size ← lawful w16 29 Agreement (λ n. n == agreement_len agreement epoch.0) index.1
  message ← field 31 size.0 size.1
  text_len ← lawful w16 (31 + size.0) Text (is_text_len version.0) message.1
  ciphertext ← field (33 + size.0) text_len.0 text_len.1
  tag ← field (33 + size.0 + text_len.0) 32 ciphertext.1
  ended (PACKET_FRAME + size.0 + text_len.0) tag.1
      (record {
        version = version.0;
        session = session.0;
        epoch = epoch.0;
        previous = previous.0;
        index = index.0;
        agreement = message.0;
        ciphertext = ciphertext.0;
        tag = tag.0;
      })

-- What a function returned, seen by a view, is what reading gives.
abbrev pub Gives : {X Y : Type 0} → (X → Y) → Result X Malformed → Result Y Malformed → Type 0
Gives view (Ok x) read = read ≡ Ok (view x)
Gives view (Err e) read = read ≡ Err e
