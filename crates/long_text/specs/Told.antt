-- A text that was told in parts.
use Rattle.std.specs.Prelude.{◌≡◌, ◌==◌, ℕ, ◌≤◌, true, List, length, map}
use Rattle.std.specs.List.{AllByRecursion, list_any}
use Rattle.boxes.specs.Entries.{Entry, entry_with}
use Rattle.dr_base.specs.declared.position.Position.{Position}
use Rattle.long_text.specs.Cuts.{bytes_at, count_of, part_at}
use Rattle.long_text.specs.Longs.{has_number}
use Rattle.boxes.specs.Parts.{part_text}
use Rattle.long_text.specs.Pieces.{Piece, pieces}
use Rattle.boxes.specs.declared.kinds.TheConstants.{PART_KIND}
use Rattle.long_text.specs.declared.limits.TheConstants.{LONG_LIMIT}

-- a piece is one of the text's parts
pub record IsPartOf (text : List ℕ) (p : Piece) : Type 0 where
  pub one : 1 ≤ p.number
  pub most : p.number ≤ count_of text
  pub count_is : p.count ≡ count_of text
  pub bytes_are : p.bytes ≡ bytes_at text p.number

-- Among entries, in any order and as often as they came, stand only parts of the text under the
-- id, and each of them. What stands there beside them is of other ids and kinds.
pub record IsTold (text : List ℕ) (id : ℕ) (entries : List Entry) : Type 0 where
  pub few : length text ≤ LONG_LIMIT
  pub only : AllByRecursion (IsPartOf text) (pieces id entries)
  pub each : (number : ℕ) → 1 ≤ number → number ≤ count_of text
      → list_any (has_number number) (pieces id entries) ≡ true

-- ---- a text whose parts arrive one after the other

-- a part of the text that came, by its number, and the position at which it stands
pub record Arrival : Type 0 where
  pub position : Position
  pub number : ℕ

-- the parts of the text came, in any order and as often as it may be, and each of them did
pub record HasArrived (text : List ℕ) (arrivals : List Arrival) : Type 0 where
  pub few : length text ≤ LONG_LIMIT
  pub one : AllByRecursion (λ a. 1 ≤ a.number) arrivals
  pub most : AllByRecursion (λ a. a.number ≤ count_of text) arrivals
  pub each : (number : ℕ) → 1 ≤ number → number ≤ count_of text
      → list_any (λ a. a.number == number) arrivals ≡ true

-- the entry of a part that came
abbrev pub entry_of : ℕ → List ℕ → Arrival → Entry
entry_of id text a = entry_with a.position PART_KIND (part_text (part_at id text a.number))

-- the entries of all that came
abbrev pub entries_of : ℕ → List ℕ → List Arrival → List Entry
entries_of id text arrivals = map (entry_of id text) arrivals
