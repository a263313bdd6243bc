-- What a call under a name answers and does.
use Rattle.std.specs.Prelude.{Err, IfOk, List, None, Ok, OnOk, Option, Result, Some, ℕ, ◌≡◌}
use Rattle.book_model.specs.Rows.{under}
use Rattle.dr_base.specs.declared.position.Position.{Position}
use Rattle.dr_base.specs.declared.position.Side.{Side}
use Rattle.dr_disk.specs.State.{DiskState}
use Rattle.dr_model.specs.Machines.Acts.{Act, act_on, saying, taking}
use Rattle.dr_model.specs.Machines.WorldActs.{act_in}
use Rattle.dr_model.specs.Machines.Worlds.{World}
use Rattle.dr_model.specs.Theorems.Fairness.{IsUnforged}
use Rattle.dr_ports.specs.States.{DrawsState}
use Rattle.kem_laws.specs.Mechanism.{Mechanism}
use Rattle.client.specs.InWorlds.{IsKeeperIn, KeeperActsIn}
use Rattle.client.specs.Keepings.{IsKeeperOpen, cell_of}
use Rattle.client.specs.Outcomes.{KeeperActs, Outcome, StaysPassing, said_as, taken_as}
use Rattle.client.specs.Receipts.{HaveArrived}
use Rattle.client.specs.Saying.{KeeperDraws, KeeperSaysIn, KeeperSaysWithDraw}
use Rattle.client.specs.Spent.{IsSpentInCell}
use Rattle.client.specs.declared.refusals.SayRefusal.{SayRefusal}
use Rattle.client.specs.declared.refusals.TakeRefusal.{TakeRefusal}
use Rattle.book.specs.Books.{BookNow}
use Rattle.book.specs.Naming.{IsPlaceOf}
use Rattle.book.specs.RowKeepings.{RowNow, row_keeping}
use Rattle.book.specs.declared.refusals.BookRefusal.{BookRefusal}
use Rattle.book.specs.declared.refusals.BookRefusal.TheVariants.{Closed, NoName, Of}
use Rattle.session_model.specs.Contents.{text_content}

-- the row at a place, of a book
abbrev pub row_in : BookNow → ℕ → RowNow
row_in book at = record { book = book; at = at }

-- A closed book answers so, and one without a row of the name; then nothing happens. Else it is a call on the row of the
-- name.
abbrev pub IsCallOn : {T R : Type 0} → BookNow → List ℕ → Type 0 → (ℕ → Result T R → Type 0)
    → Result T (BookRefusal R) → Type 0
IsCallOn old name nothing does (Ok v) =
    (old.closed ≡ None) × ((at : ℕ) × IsPlaceOf name old.rows at × does at (Ok v))
IsCallOn old name nothing does (Err (Of e)) =
    (old.closed ≡ None) × ((at : ℕ) × IsPlaceOf name old.rows at × does at (Err e))
IsCallOn old name nothing does (Err (Closed call)) = (old.closed ≡ Some call) × nothing
IsCallOn old name nothing does (Err NoName) =
    (old.closed ≡ None) × (under name old.rows ≡ None) × nothing

-- ---- of a row

-- a text is said
pub record RowSays {X W : Type 0} (state : X → DiskState) (draws : W → DrawsState) (k : Mechanism)
    (text : List ℕ) (old new : RowNow) (start now : X) (source left : W)
    (result : Result Position SayRefusal) : Type 0 where
  -- exactly what the side makes of it, but for a failing draw or call on the disk
  pub exact : KeeperSaysWithDraw row_keeping state draws k (text_content text) old new start now source left result
  pub ready : OnOk result (IsKeeperOpen row_keeping new (state now))
  -- in each world that the row stands for, at every moment
  pub in_worlds : (w : World) (side : Side) → IsKeeperIn row_keeping k w side old
      → KeeperSaysIn row_keeping draws k w side (text_content text) old new (state start) (state now) source left
      (said_as result)
  -- once it is said, the key of its position is used up, and nothing that a crash leaves gives it
  pub spent : IfOk result (λ position. (w : World) (side : Side)
      → IsKeeperIn row_keeping k w side old
      → (draw : Option (List ℕ))
      × KeeperDraws row_keeping draws old (text_content text) source left draw
      × IsSpentInCell (cell_of row_keeping old) k (act_in k w side (saying (text_content text) draw)).next side
      position (state now))
  pub fate : StaysPassing (state start) (state now) (said_as result)

-- a packet is taken
pub record RowTakes {X : Type 0} (state : X → DiskState) (k : Mechanism) (packet : List ℕ)
    (old new : RowNow) (start now : X) (result : Result Position TakeRefusal) : Type 0 where
  -- exactly what the side makes of it, but for a failing call on the disk
  pub exact : KeeperActs row_keeping state (act_on k (row_keeping.kept old) (taking packet)) old new
      start now (taken_as result)
  pub ready : OnOk result (IsKeeperOpen row_keeping new (state now))
  -- in each world that the row stands for, at every moment, where no tag is forged
  pub in_worlds : (w : World) (side : Side) → IsKeeperIn row_keeping k w side old
      → IsUnforged k w side packet
      → KeeperActsIn row_keeping k w side (taking packet) old new (state start) (state now)
      (taken_as result)
  -- once it is opened, the key of its position is used up, and nothing that a crash leaves gives it
  pub spent : IfOk result (λ position. (w : World) (side : Side)
      → IsKeeperIn row_keeping k w side old → IsUnforged k w side packet
      → IsSpentInCell (cell_of row_keeping old) k (act_in k w side (taking packet)).next side
      position (state now))
  -- each own text that doesn't wait for a receipt any more was opened by the other side
  pub arrived : (w : World) (side : Side) → IsKeeperIn row_keeping k w side old
      → IsUnforged k w side packet
      → HaveArrived w side (row_keeping.kept old) (row_keeping.kept new)
  pub fate : StaysPassing (state start) (state now) (taken_as result)

-- the oldest items of a box are dropped
pub record RowDrops {T R X : Type 0} (state : X → DiskState) (k : Mechanism) (act : Act)
    (outcome : Result T R → Outcome) (old new : RowNow) (start now : X) (result : Result T R)
    : Type 0 where
  -- exactly what the side makes of it, but for a failing call on the disk
  pub exact : KeeperActs row_keeping state (act_on k (row_keeping.kept old) act) old new start now
      (outcome result)
  pub ready : OnOk result (IsKeeperOpen row_keeping new (state now))
  -- in each world that the row stands for, at every moment
  pub in_worlds : (w : World) (side : Side) → IsKeeperIn row_keeping k w side old
      → KeeperActsIn row_keeping k w side act old new (state start) (state now) (outcome result)
  pub fate : StaysPassing (state start) (state now) (outcome result)
