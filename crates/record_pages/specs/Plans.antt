-- Which pages a new record changes, the numbers that its pages get, and those that it no longer has.
use Rattle.std.specs.Prelude.{ℕ, zero, suc, nat_eq, nat_lt, ◌&&◌, Bool, List, [], ◌∷◌, drop, slice_index, if◌then◌else◌}
use Rattle.std.specs.List.{list_any}
use Rattle.std.specs.Str.{bytes_eq}
use Rattle.record_pages.specs.Pages.{filled_page, page_at}

-- the pages of the second that differ from the first one's at their place, or that have none there
abbrev pub changed : List (List ℕ) → List (List ℕ) → List (List ℕ)
changed old [] = []
changed [] (page ∷ new) = page ∷ changed [] new
changed (was ∷ old) (page ∷ new) =
    if bytes_eq was page then changed old new else page ∷ changed old new

-- their places, the first one being i
abbrev pub changed_places : ℕ → List (List ℕ) → List (List ℕ) → List ℕ
changed_places i old [] = []
changed_places i [] (page ∷ new) = i ∷ changed_places (suc i) [] new
changed_places i (was ∷ old) (page ∷ new) =
    if bytes_eq was page then changed_places (suc i) old new else i ∷ changed_places (suc i) old new

-- a number for each page of the new record: kept where the page stays, else the next of the fresh ones
abbrev pub numbered : List (List ℕ) → List ℕ → List (List ℕ) → List ℕ → List ℕ
numbered old numbers [] fresh = []
numbered [] numbers (page ∷ new) fresh = slice_index fresh 0 ∷ numbered [] numbers new (drop 1 fresh)
numbered (was ∷ old) [] (page ∷ new) fresh = []
numbered (was ∷ old) (n ∷ numbers) (page ∷ new) fresh =
    if bytes_eq was page then n ∷ numbered old numbers new fresh
    else slice_index fresh 0 ∷ numbered old numbers new (drop 1 fresh)

-- the numbers of the old record's pages that the new one doesn't have at their place
abbrev pub dropped : List (List ℕ) → List ℕ → List (List ℕ) → List ℕ
dropped [] numbers new = []
dropped (was ∷ old) [] new = []
dropped (was ∷ old) (n ∷ numbers) [] = n ∷ dropped old numbers []
dropped (was ∷ old) (n ∷ numbers) (page ∷ new) =
    if bytes_eq was page then dropped old numbers new else n ∷ dropped old numbers new

-- a number is one of these
abbrev pub is_among : List ℕ → ℕ → Bool
is_among numbers n = list_any (λ m. nat_eq m n) numbers

-- of the k numbers from `least` on those that aren't among these, ascending
abbrev pub free_from : List ℕ → ℕ → ℕ → List ℕ
free_from numbers zero least = []
free_from numbers (suc k) least =
    if is_among numbers least then free_from numbers k (suc least)
    else least ∷ free_from numbers k (suc least)

-- of a record that has `held` pages in these bytes, the page at a place stays where a text takes its place
abbrev pub stays_at : ℕ → List ℕ → List ℕ → ℕ → Bool
stays_at held bytes text at = nat_lt at held && bytes_eq (page_at bytes at) (filled_page (page_at text at))
