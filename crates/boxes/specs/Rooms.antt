-- The rooms of a row, each under a number, and the order in which their items stand.
use Rattle.std.specs.Prelude.{◌≤◌, ℕ, List, [], ◌++◌, All, length, map, slice_index_or, take, drop}
use Rattle.std.specs.List.{range_with_len}
use Rattle.std.specs.List.Sorted.{IsPermutation}
use Rattle.boxes.specs.Items.{Item, item_at}
use Rattle.boxes.specs.declared.kinds.TheConstants.{TEXT_KIND}

-- what stands where there is no room
abbrev pub no_item : Item
no_item = item_at (record { epoch = 0; index = 0 }) TEXT_KIND []

-- the item in the room of a number
abbrev pub item_in : List Item → ℕ → Item
item_in rooms number = slice_index_or rooms number no_item

-- the items in the rooms that are held, which come first in an order
abbrev pub standing : List Item → ℕ → List ℕ → List Item
standing rooms held order = map (item_in rooms) (take held order)

-- an order whose first n numbers have come behind the others of those that are held
abbrev pub turned_front : ℕ → ℕ → List ℕ → List ℕ
turned_front held n order = drop n (take held order) ++ take n order ++ drop held order

-- There are no more rooms than the limit, and the number of each stands once in the order. The rooms that are held come
-- first in it, and no item is larger than a room.
pub record AreRooms (limit room : ℕ) (rooms : List Item) (held : ℕ) (order : List ℕ) : Type 0 where
  pub few : length rooms ≤ limit
  pub once : IsPermutation (range_with_len 0 (length rooms)) order
  pub first : held ≤ length rooms
  pub fits : All (λ item. length item.bytes ≤ room) rooms
