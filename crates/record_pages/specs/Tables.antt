-- The table of one record, after its gate: its turn, its length in four bytes, a page number in two bytes for each of its
-- pages, and zeros.
use Rattle.std.specs.Prelude.{ℕ, zero, suc, ◌+◌, ◌*◌, ◌==◌, ◌&&◌, not, nat_le, nat_lt, List, [], ◌∷◌, ◌++◌, length, take, drop, replicate, Option, Some, None, if◌then◌else◌}
use Rattle.std.specs.Int.{w16, w32, to_be_bytes, from_be_bytes}
use Rattle.record_pages.specs.Pages.{page_count}
use Rattle.record_pages.specs.Plans.{is_among}

abbrev pub printed : List ℕ → List ℕ
printed [] = []
printed (n ∷ numbers) = to_be_bytes w16 n ++ printed numbers

abbrev pub numbers_in : ℕ → List ℕ → List ℕ
numbers_in zero bytes = []
numbers_in (suc count) bytes = from_be_bytes w16 (take 2 bytes) ∷ numbers_in count (drop 2 bytes)

-- with n zeros at its end
abbrev pub table_body : ℕ → ℕ → List ℕ → ℕ → List ℕ
table_body turn length numbers n =
    turn ∷ (to_be_bytes w32 length ++ (printed numbers ++ replicate n 0))

abbrev pub length_in : List ℕ → ℕ
length_in body = from_be_bytes w32 (take 4 (drop 1 body))

-- the pages that a table names
unfoldable pub record_names : List ℕ → List ℕ
record_names body = numbers_in (page_count (length_in body)) (drop 5 body)

-- the place of the first byte that isn't zero, counted from `at`
abbrev pub nonzero_from : ℕ → List ℕ → Option ℕ
nonzero_from at [] = None
nonzero_from at (b ∷ rest) = if b == 0 then nonzero_from (at + 1) rest else Some at

-- the place of the first entry that is no page's number, from `least` to below `pages`, or that stands
-- among the earlier ones
abbrev pub entry_fault : ℕ → ℕ → List ℕ → ℕ → List ℕ → Option ℕ
entry_fault least pages earlier at [] = None
entry_fault least pages earlier at (n ∷ numbers) =
    if nat_le least n && (nat_lt n pages && not (is_among earlier n))
    then entry_fault least pages (earlier ++ n ∷ []) (at + 2) numbers
    else Some at

abbrev pub or_else : Option ℕ → Option ℕ → Option ℕ
or_else (Some at) next = Some at
or_else None next = next

-- The first place of a table that no record's has, counted from its gate: 2 where it has more pages than `most`, then an entry, then a
-- byte behind the entries that isn't zero.
unfoldable pub table_fault : ℕ → ℕ → ℕ → List ℕ → Option ℕ
table_fault least pages most body =
    if nat_le (page_count (length_in body)) most
    then or_else (entry_fault least pages [] 6 (record_names body))
    (nonzero_from (6 + 2 * page_count (length_in body)) (drop (5 + 2 * page_count (length_in body)) body))
    else Some 2
