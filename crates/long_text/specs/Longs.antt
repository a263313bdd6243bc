-- The long text that pieces make up.
use Rattle.std.specs.Prelude.{ℕ, ◌==◌, ◌&&◌, ◌||◌, Bool, not, nat_lt, List, [], ◌∷◌, length, filter, find, flat_map, Option, Some, None, Result, Ok, Err, if◌then◌else◌}
use Rattle.std.specs.List.{list_any, range_with_len}
use Rattle.std.specs.Str.{bytes_eq}
use Rattle.boxes.specs.Entries.{Entry}
use Rattle.boxes.specs.declared.limits.TheConstants.{PARTS_LIMIT}
use Rattle.long_text.specs.Pieces.{Piece, pieces}
use Rattle.long_text.specs.declared.refusal.LongRefusal.{LongRefusal}
use Rattle.long_text.specs.declared.refusal.LongRefusal.TheVariants.{Clash, NoLong, Parts}

-- two pieces can't be of one text: their counts differ, or their bytes under one number
abbrev pub clashes : Piece → Piece → Bool
clashes a b =
    not (a.count == b.count) || ((a.number == b.number) && not (bytes_eq a.bytes b.bytes))

-- the pair of a piece with the oldest later one that clashes with it, else one of later pieces
abbrev pub clash_of : Piece → Option Piece → Option LongRefusal → Option LongRefusal
clash_of first (Some second) later = Some (Clash first.position second.position)
clash_of first None later = later

-- the first pair that clashes: its first piece is the oldest that clashes with a later one, its
-- second the oldest of these
abbrev pub clash_in : List Piece → Option LongRefusal
clash_in [] = None
clash_in (first ∷ later) = clash_of first (find (clashes first) later) (clash_in later)

-- a piece stands under a number
abbrev pub has_number : ℕ → Piece → Bool
has_number number p = p.number == number

-- how many numbers stand
abbrev pub numbers_had : List Piece → ℕ
numbers_had list =
    length (filter (λ number. list_any (has_number number) list) (range_with_len 1 PARTS_LIMIT))

-- the bytes of a piece that was found
abbrev pub bytes_of : Option Piece → List ℕ
bytes_of None = []
bytes_of (Some p) = p.bytes

-- the bytes under a number
abbrev pub bytes_under : List Piece → ℕ → List ℕ
bytes_under list number = bytes_of (find (has_number number) list)

-- the bytes under the numbers 1 to n, one after the other
abbrev pub joined : List Piece → ℕ → List ℕ
joined list n = flat_map (bytes_under list) (range_with_len 1 n)

-- the bytes of all numbers, or how many numbers stand of so many
abbrev pub whole_of : List Piece → ℕ → Result (List ℕ) LongRefusal
whole_of list count =
    if nat_lt (numbers_had list) count then Err (Parts (numbers_had list) count)
    else Ok (joined list count)

-- a clash comes before what else there is to say
abbrev pub unless_clash : Option LongRefusal → Result (List ℕ) LongRefusal
    → Result (List ℕ) LongRefusal
unless_clash (Some refusal) whole = Err refusal
unless_clash None whole = whole

-- the count that the first one tells
abbrev pub count_told : List Piece → Option ℕ
count_told [] = None
count_told (p ∷ list) = Some p.count

-- the long text of pieces, or why there is none
abbrev pub long_from : List Piece → Result (List ℕ) LongRefusal
long_from [] = Err NoLong
long_from (p ∷ list) = unless_clash (clash_in (p ∷ list)) (whole_of (p ∷ list) p.count)

-- the long text of an id among entries
unfoldable pub long_of : ℕ → List Entry → Result (List ℕ) LongRefusal
long_of id entries = long_from (pieces id entries)
