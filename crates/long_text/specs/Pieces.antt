-- The pieces of a long text that stand among entries.
use Rattle.std.specs.Prelude.{ℕ, List, map, filter}
use Rattle.boxes.specs.Entries.{Entry, is_of}
use Rattle.boxes.specs.Parts.{part_of}
use Rattle.dr_base.specs.declared.position.Position.{Position}

-- a part that stands, under its position
pub record Piece : Type 0 where
  pub position : Position
  pub number : ℕ
  pub count : ℕ
  pub bytes : List ℕ

abbrev pub piece : Entry → Piece
piece entry = record {
  position = entry.position;
  number = (part_of entry.text).number;
  count = (part_of entry.text).count;
  bytes = (part_of entry.text).bytes;
}

-- all that stand, the oldest first
unfoldable pub pieces : ℕ → List Entry → List Piece
pieces id entries = map piece (filter (is_of id) entries)
