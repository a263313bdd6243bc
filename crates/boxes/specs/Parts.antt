-- A part of a long text, and its bytes; what a content of a kind is.
use Rattle.std.specs.Prelude.{ℕ, ◌≤◌, ◌==◌, ◌&&◌, Bool, nat_le, List, ◌∷◌, ◌++◌, length, take, drop, slice_index_or, Option, Some, None, if◌then◌else◌}
use Rattle.std.specs.Int.{w32, to_be_bytes, from_be_bytes}
use Rattle.dr_base.specs.declared.limits.TheConstants.{TEXT_LIMIT}
use Rattle.boxes.specs.declared.kinds.TheConstants.{PART_KIND, TEXT_KIND}
use Rattle.boxes.specs.declared.limits.TheConstants.{PARTS_LIMIT, PART_HEAD, PART_LIMIT}

-- the id of the long text, the part's number from 1, how many parts there are, and its bytes
pub record Part : Type 0 where
  pub id : ℕ
  pub number : ℕ
  pub count : ℕ
  pub bytes : List ℕ

-- a lawful part
pub record IsPart (part : Part) : Type 0 where
  pub one : 1 ≤ part.number
  pub most : part.number ≤ part.count
  pub few : part.count ≤ PARTS_LIMIT
  pub short : length part.bytes ≤ PART_LIMIT

-- the bytes of a part
abbrev pub part_text : Part → List ℕ
part_text part = to_be_bytes w32 part.id ++ (part.number ∷ (part.count ∷ part.bytes))

-- bytes are those of a lawful part: they have a head, are no longer than a text, and the number is
-- from 1 to the count
unfoldable pub is_part : List ℕ → Bool
is_part text =
    (nat_le PART_HEAD (length text) && nat_le (length text) TEXT_LIMIT)
    && (nat_le 1 (slice_index_or text 4 0)
    && (nat_le (slice_index_or text 4 0) (slice_index_or text 5 0)
    && nat_le (slice_index_or text 5 0) PARTS_LIMIT))

-- the part that has these bytes
abbrev pub part_of : List ℕ → Part
part_of text = record {
  id = from_be_bytes w32 (take 4 text);
  number = slice_index_or text 4 0;
  count = slice_index_or text 5 0;
  bytes = drop PART_HEAD text;
}

-- the part that bytes are read as
abbrev pub part_read : List ℕ → Option Part
part_read text = if is_part text then Some (part_of text) else None

-- ---- the contents of kinds

-- bytes are a content of a kind: a text, or a part of a long one
abbrev pub is_content : ℕ → List ℕ → Bool
is_content kind bytes =
    if kind == TEXT_KIND then nat_le (length bytes) TEXT_LIMIT
    else ((kind == PART_KIND) && is_part bytes)

-- bytes of a kind are a part of the long text of an id
abbrev pub is_part_under : ℕ → ℕ → List ℕ → Bool
is_part_under id kind bytes =
    (kind == PART_KIND) && (is_part bytes && ((part_of bytes).id == id))
