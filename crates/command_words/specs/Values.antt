-- The words after a command's name, as its values.
use Rattle.std.specs.Prelude.{◌==◌, ◌++◌, ℕ, Bool, false, List, [], ◌∷◌, Option, Some, None, codes, unwrap_or, if◌then◌else◌}
use Rattle.std.specs.List.{list_any, before_first, after_first}
use Rattle.std.specs.Str.{bytes_eq}
use Rattle.clap.specs.Walk.{Row, all_of}

abbrev pub is_separator : List ℕ → Bool
is_separator word = bytes_eq word (codes "--")

-- the word begins with a hyphen (45), and more follows it
abbrev pub is_flag : List ℕ → Bool
is_flag [] = false
is_flag (first ∷ []) = false
is_flag (first ∷ next ∷ rest) = first == 45

-- the words before the first `--`, none of which may be a flag, and the words after it
unfoldable pub values_of : List (List ℕ) → Option (List (List ℕ))
values_of words =
    if list_any is_flag (before_first is_separator words) then None
    else Some (before_first is_separator words ++ after_first is_separator words)

-- the values that clap found, by the one name that the application gives them
abbrev pub values_found : List Row → List (List ℕ)
values_found rows = unwrap_or (all_of (codes "values") rows) []
