-- What the inbox holds: a list of entries, the oldest first.
use Rattle.std.specs.Prelude.{ℕ, Bool, List}
use Rattle.boxes.specs.Items.{Item}
use Rattle.boxes.specs.Parts.{is_part_under}
use Rattle.boxes.specs.declared.kinds.TheConstants.{TEXT_KIND}
use Rattle.dr_base.specs.declared.position.Position.{Position}

-- a content of the peer's, under its position, and of which kind it is
pub record Entry : Type 0 where
  pub position : Position
  pub kind : ℕ
  pub text : List ℕ

abbrev pub entry_with : Position → ℕ → List ℕ → Entry
entry_with position kind text = record { position = position; kind = kind; text = text }

-- the entry of a text
abbrev pub entry_under : Position → List ℕ → Entry
entry_under position text = entry_with position TEXT_KIND text

-- the entry that stands in a room
abbrev pub as_entry : Item → Entry
as_entry item = entry_with item.position item.kind item.bytes

-- an entry is a part of the long text of an id
abbrev pub is_of : ℕ → Entry → Bool
is_of id entry = is_part_under id entry.kind entry.text
