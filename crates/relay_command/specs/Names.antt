-- The words that a relay is started with.
use Rattle.std.specs.Prelude.{◌≡◌, ◌<◌, ◌+◌, ◌&&◌, ℕ, Bool, true, false, not, nat_lt, List, length, map, take, slice_get, Some}
use Rattle.std.specs.List.{list_any}
use Rattle.std.specs.Str.{bytes_eq}
use Rattle.relay_core.specs.declared.limits.TheConstants.{RELAY_LIMIT}
use Rattle.relay_core.specs.declared.spec.BoxSpec.{BoxSpec}
use Rattle.relay_command.specs.BoxWords.{name_in, says_box, spec_in}

-- some of these words has this name
abbrev pub is_among : List (List ℕ) → List ℕ → Bool
is_among words name = list_any (λ other. bytes_eq (name_in other) name) words

-- a word names a box after these: it says what the box is, has none of their names, and is at most
-- the last that a relay has room for
unfoldable pub is_box_name : List (List ℕ) → List ℕ → Bool
is_box_name before word =
    says_box word && (not (is_among before (name_in word)) && nat_lt (length before) RELAY_LIMIT)

-- what the boxes are made by that the words name
abbrev pub specs_of : List (List ℕ) → List BoxSpec
specs_of words = map spec_in words

-- the first n words name boxes
abbrev pub AreBoxNames : ℕ → List (List ℕ) → Type 0
AreBoxNames n words = (k : ℕ) (word : List ℕ) → k < n → slice_get words k ≡ Some word
    → is_box_name (take k words) word ≡ true

-- and all of them do
abbrev pub AreNames : List (List ℕ) → Type 0
AreNames words = (k : ℕ) (word : List ℕ) → slice_get words k ≡ Some word
    → is_box_name (take k words) word ≡ true

-- the first word that doesn't is the one of this number, from 1
pub record IsFirstBad (words : List (List ℕ)) (number : ℕ) : Type 0 where
  pub place : ℕ
  pub word : List ℕ
  pub number_is : number ≡ place + 1
  pub before : AreBoxNames place words
  pub here : slice_get words place ≡ Some word
  pub bad : is_box_name (take place words) word ≡ false
