-- Readers of texts of many fields, from left to right. A reader is handed the offset where it stands and the bytes from
-- there on. It gives a value, with the offset and the bytes after it, or the offset of the first fault.
use Rattle.std.specs.Prelude.{ℕ, zero, suc, ◌+◌, ◌==◌, ◌⊎◌, Bool, true, false, nat_le, List, [], ◌∷◌, ◌++◌, length, take, drop, Option, Some, None, Result, Ok, Err, if◌then◌else◌}
use Rattle.std.proofs.Common.{inl, inr}
use Rattle.std.specs.Int.{Width, byte_len, from_be_bytes}

-- a value that was read, and what stands after it
pub record Read (A : Type 0) : Type 0 where
  pub value : A
  pub at : ℕ
  pub rest : List ℕ

abbrev pub Reader : Type 0 → Type 0
Reader A = ℕ → List ℕ → Result (Read A) ℕ

-- what is read after a value, unless there was a fault
abbrev pub and_then : {A B : Type 0} → Result (Read A) ℕ → (A → Reader B) → Result (Read B) ℕ
and_then (Ok x) next = next x.value x.at x.rest
and_then (Err at) next = Err at

-- a value that takes no bytes
abbrev pub gives : {A : Type 0} → A → Reader A
gives a at bytes = Ok (record { value = a; at = at; rest = bytes })

-- ---- single fields; one that the text ends inside is a fault at its own offset

-- this many bytes
unfoldable pub piece : ℕ → Reader (List ℕ)
piece size at bytes =
    if nat_le size (length bytes) then Ok (record { value = take size bytes; at = at + size; rest = drop size bytes })
    else Err at

-- a number of a width, the highest byte first
unfoldable pub number : Width → Reader ℕ
number w at bytes =
    let size = byte_len w in
    if nat_le size (length bytes)
    then Ok (record { value = from_be_bytes w (take size bytes); at = at + size; rest = drop size bytes })
    else Err at

-- ---- fields put together

-- a field that passes a test, or else is a fault at its own offset
abbrev pub checked : {A : Type 0} → (A → Bool) → Reader A → Reader A
checked test read at bytes =
    and_then (read at bytes) (λ a at' rest. if test a then Ok (record { value = a; at = at'; rest = rest }) else Err at)

-- a field, as what it means
abbrev pub mapped : {A B : Type 0} → (A → B) → Reader A → Reader B
mapped f read at bytes = and_then (read at bytes) (λ a. gives (f a))

-- a field, and after it another, which may hang on the first
abbrev pub both : {A B : Type 0} → Reader A → (A → Reader B) → Reader (A × B)
both first next at bytes =
    and_then (first at bytes) (λ a at' rest. and_then (next a at' rest) (λ b. gives (a, b)))

-- a field that stands only where this is true
abbrev pub maybe : {A : Type 0} → Bool → Reader A → Reader (Option A)
maybe true read at bytes = mapped Some read at bytes
maybe false read at bytes = gives None at bytes

-- the first field where this is true, else the second
abbrev pub either : {A B : Type 0} → Bool → Reader A → Reader B → Reader (A ⊎ B)
either true first second at bytes = mapped inl first at bytes
either false first second at bytes = mapped inr second at bytes

-- this many items, each of which may hang on those before it
unfoldable pub items : {A : Type 0} → (List A → Reader A) → ℕ → Reader (List A)
items read zero at bytes = gives [] at bytes
items read (suc n) at bytes =
    and_then (items read n at bytes) (λ before at' rest. and_then (read before at' rest) (λ a. gives (before ++ a ∷ [])))

-- items after their count, which passes a test
abbrev pub counted : {A : Type 0} → Width → (ℕ → Bool) → (List A → Reader A) → Reader (List A)
counted w test read = mapped (λ e. e.1) (both (checked test (number w)) (λ n. items read n))

-- bytes that pass a test, after their length, which passes another
abbrev pub sized : Width → (ℕ → Bool) → (List ℕ → Bool) → Reader (List ℕ)
sized w test is_text = mapped (λ e. e.1) (both (checked test (number w)) (λ n. checked is_text (piece n)))

-- ---- texts as a whole

-- a value after which nothing stands; else a fault at the first byte after it
abbrev pub ended : {A : Type 0} → Result (Read A) ℕ → Result A ℕ
ended (Ok x) = if length x.rest == 0 then Ok x.value else Err x.at
ended (Err at) = Err at

-- the value that a whole text is
abbrev pub whole : {A : Type 0} → Reader A → List ℕ → Result A ℕ
whole read bytes = ended (read 0 bytes)
