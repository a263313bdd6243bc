-- How a text is cut into parts.
use Rattle.std.specs.Prelude.{ℕ, ◌*◌, ◌-◌, ◌&&◌, nat_le, List, length, max, take, drop, Option, Some, None, if◌then◌else◌}
use Rattle.std.specs.Int.{div_ceil}
use Rattle.boxes.specs.Parts.{Part}
use Rattle.boxes.specs.declared.limits.TheConstants.{PART_LIMIT}

-- how many parts a text has: it is cut after each PART_LIMIT bytes, and an empty one is one part
abbrev pub count_of : List ℕ → ℕ
count_of text = max 1 (div_ceil (length text) PART_LIMIT)

-- the bytes of a part, by its number from 1
abbrev pub bytes_at : List ℕ → ℕ → List ℕ
bytes_at text number = take PART_LIMIT (drop (PART_LIMIT * (number - 1)) text)

-- the part of a text, told under an id
abbrev pub part_at : ℕ → List ℕ → ℕ → Part
part_at id text number = record {
  id = id;
  number = number;
  count = count_of text;
  bytes = bytes_at text number;
}

-- the same, where there is one
abbrev pub part_cut : ℕ → List ℕ → ℕ → Option Part
part_cut id text number =
    if nat_le 1 number && nat_le number (count_of text) then Some (part_at id text number)
    else None
