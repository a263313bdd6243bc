-- Printers of fields that are put together, and the values that they print.
use Rattle.std.specs.Prelude.{◌≡◌, ℕ, zero, suc, ◌≤◌, ◌⊎◌, Bool, true, false, List, [], ◌∷◌, ◌++◌, length, Option, Some, None}
use Rattle.std.proofs.Common.{inl, inr}
use Rattle.std.specs.Int.{Width, to_be_bytes}

-- a field that stands or not
abbrev pub print_maybe : {A : Type 0} → (A → List ℕ) → Option A → List ℕ
print_maybe print None = []
print_maybe print (Some a) = print a

-- one field or the other
abbrev pub print_either : {A B : Type 0} → (A → List ℕ) → (B → List ℕ) → A ⊎ B → List ℕ
print_either first second (inl a) = first a
print_either first second (inr b) = second b

-- items, one after the other
unfoldable pub print_items : {A : Type 0} → (A → List ℕ) → List A → List ℕ
print_items print [] = []
print_items print (a ∷ more) = print a ++ print_items print more

-- items after their count
abbrev pub print_counted : {A : Type 0} → Width → (A → List ℕ) → List A → List ℕ
print_counted w print list = to_be_bytes w (length list) ++ print_items print list

-- bytes after their length
abbrev pub print_sized : Width → List ℕ → List ℕ
print_sized w bytes = to_be_bytes w (length bytes) ++ bytes

-- ---- values that these print

-- a value where this is true, and then a lawful one
abbrev pub IsMaybe : {A : Type 0} → Bool → (A → Type 0) → Option A → Type 0
IsMaybe there Lawful None = there ≡ false
IsMaybe there Lawful (Some a) = (there ≡ true) × Lawful a

-- the first where this is true, else the second, and a lawful one
abbrev pub IsEither : {A B : Type 0} → Bool → (A → Type 0) → (B → Type 0) → A ⊎ B → Type 0
IsEither there First Second (inl a) = (there ≡ true) × First a
IsEither there First Second (inr b) = (there ≡ false) × Second b

-- this many items, each lawful after those before it
pub data AreItems {A : Type 0} (Lawful : List A → A → Type 0) : ℕ → List A → Type 0 where
  no_items : AreItems Lawful zero []
  and_item : (n : ℕ) (before : List A) (a : A) → AreItems Lawful n before → Lawful before a
      → AreItems Lawful (suc n) (before ++ a ∷ [])

-- ---- where it is printed

-- a buffer of this size holds a text: it is no shorter, or it holds the longest one
abbrev pub HasRoom : ℕ → List ℕ → ℕ → Type 0
HasRoom longest text room = (length text ≤ room) ⊎ (longest ≤ room)
