-- The first fault of bytes that are no packet, in the printer's words. Nothing is read here: a place is one where
-- a lawful packet has a field.
use Rattle.std.specs.Prelude.{◌≡◌, ℕ, ◌+◌, ◌^◌, ◌<◌, ◌≤◌, List, [], ◌∷◌, ◌++◌, length, take, get_or}
use Rattle.std.specs.Int.{w8, w16, w32, to_be_bytes}
use Rattle.std.specs.List.{concat}
use Rattle.packet.specs.declared.fault.Kind.{Kind}
use Rattle.packet.specs.declared.fault.Kind.TheVariants.{Version, Epoch, Previous, Index, Agreement, Text, Short, Long}
use Rattle.packet.specs.declared.fault.Malformed.{Malformed}
use Rattle.packet.specs.Packet.{Fields, IsLawful, packet_of}

-- the bytes of each field, in order: 0 is the version, 1 the session id, 2 the epoch, 3 the previous count, 4 the
-- index, 5 and 6 the agreement message's length and itself, 7 and 8 the ciphertext's, 9 the tag
abbrev pub pieces_of : Fields → List (List ℕ)
pieces_of f =
    to_be_bytes w8 f.version ∷ f.session ∷ to_be_bytes w32 f.epoch ∷ to_be_bytes w32 f.previous ∷ to_be_bytes w32 f.index
    ∷ to_be_bytes w16 (length f.agreement) ∷ f.agreement ∷ to_be_bytes w16
    (length f.ciphertext) ∷ f.ciphertext ∷ f.tag ∷ []

-- what stands before the place is the first fields of some lawful packet, and its next field has this size
pub record IsPlace (agreement : ℕ) (bytes : List ℕ) (at field size : ℕ) : Type 0 where
  pub fields : Fields
  pub lawful : IsLawful agreement fields
  pub before : take at bytes ≡ concat (take field (pieces_of fields))
  pub inside : at ≤ length bytes
  pub size_is : length (get_or (pieces_of fields) field []) ≡ size

-- no lawful packet begins with these bytes; the length of its agreement message has to fit into two bytes
abbrev pub BeginsNone : ℕ → List ℕ → Type 0
BeginsNone agreement bytes = (f : Fields) (rest : List ℕ) → IsLawful agreement f → length f.agreement < 2 ^ 16
    → packet_of f ≡ bytes ++ rest → ⊥

-- the field at the place is whole, and no lawful packet begins with all up to its end
pub record IsWrong (agreement : ℕ) (bytes : List ℕ) (at field : ℕ) : Type 0 where
  pub size : ℕ
  pub place : IsPlace agreement bytes at field size
  pub whole : at + size ≤ length bytes
  pub none : BeginsNone agreement (take (at + size) bytes)

-- the bytes end inside the field at the place
pub record IsShort (agreement : ℕ) (bytes : List ℕ) (at : ℕ) : Type 0 where
  pub field : ℕ
  pub size : ℕ
  pub place : IsPlace agreement bytes at field size
  pub ends : length bytes < at + size

-- a whole lawful packet stands before the place, and more after it
pub record IsLong (agreement : ℕ) (bytes : List ℕ) (at : ℕ) : Type 0 where
  pub fields : Fields
  pub lawful : IsLawful agreement fields
  pub before : take at bytes ≡ packet_of fields
  pub more : at < length bytes

-- what a fault of each kind says of the bytes
abbrev pub Says : ℕ → List ℕ → ℕ → Kind → Type 0
Says agreement bytes at Version = IsWrong agreement bytes at 0
Says agreement bytes at Epoch = IsWrong agreement bytes at 2
Says agreement bytes at Previous = IsWrong agreement bytes at 3
Says agreement bytes at Index = IsWrong agreement bytes at 4
Says agreement bytes at Agreement = IsWrong agreement bytes at 5
Says agreement bytes at Text = IsWrong agreement bytes at 7
Says agreement bytes at Short = IsShort agreement bytes at
Says agreement bytes at Long = IsLong agreement bytes at

-- the first fault of bytes, where agreement messages have this length
abbrev pub IsFault : ℕ → List ℕ → Malformed → Type 0
IsFault agreement bytes fault = Says agreement bytes fault.at fault.kind
