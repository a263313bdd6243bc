-- Moments of a disk, with what lies between them: calls that were acknowledged, cut off or refused, syncs, crashes and openings,
-- and what the other side did meanwhile.
use Rattle.std.specs.Prelude.{All, Any, Contains, List, Some, [], slice_get, ℕ, ⊤, ◌++◌, ◌+◌, ◌∷◌, ◌⊎◌, ◌≡◌}
use Rattle.dr_base.specs.declared.position.Side.{Side}
use Rattle.dr_disk.specs.State.{Always, DiskState}
use Rattle.dr_model.specs.Machines.Acts.{Act}
use Rattle.dr_model.specs.Machines.WorldActs.{act_in}
use Rattle.dr_model.specs.Machines.Events.{Event}
use Rattle.dr_model.specs.Machines.Worlds.{World, run_of}
use Rattle.dr_model.specs.Theorems.Acting.{IsFairAct}
use Rattle.dr_model.specs.Theorems.Fairness.{IsSeedWhole}
use Rattle.kem_laws.specs.Mechanism.{Mechanism}
use Rattle.relay_wire.specs.Replies.{Replied}
use Rattle.sync_model.specs.Courses.{Course, begun, read_one}
use Rattle.sync_model.specs.Parties.{Party}
use Rattle.client.specs.Cells.{Cell, client_cell}
use Rattle.client.specs.InWorlds.{CellStandsFor}
use Rattle.client.specs.Syncing.InWorlds.{AreUnforged, course_in}
use Rattle.client.specs.Syncing.Parties.{world_party}

-- ---- worlds

-- a world that events lead to
pub record IsLater (k : Mechanism) (w later : World) : Type 0 where
  pub events : List Event
  pub whole : All IsSeedWhole events
  pub leads : run_of k w events ≡ later

-- where acts of one side lead, one after the other
abbrev pub acts_in : Mechanism → Side → World → List Act → World
acts_in k side w [] = w
acts_in k side w (act ∷ acts) = acts_in k side (act_in k w side act).next acts

-- each is fair at its turn
abbrev pub AreFairActs : Mechanism → Side → World → List Act → Type 0
AreFairActs k side w [] = ⊤
AreFairActs k side w (act ∷ acts) = IsFairAct k w side act × AreFairActs k side (act_in k w side act).next acts

-- a world to which fair acts of one side lead
pub record IsActed (k : Mechanism) (side : Side) (w later : World) : Type 0 where
  pub acts : List Act
  pub fair : AreFairActs k side w acts
  pub leads : acts_in k side w acts ≡ later

-- the worlds that a course reaches with each of these replies, in order
abbrev pub reached_by : Party World → Course World → List Replied → List World
reached_by p c [] = []
reached_by p c (reply ∷ replies) = (read_one p c reply).state ∷ reached_by p (read_one p c reply) replies

-- ---- what is known of a disk

-- The worlds that a disk may stand for: the one that was acknowledged or opened last, and those in doubt, to which acts led or
-- would have led that failed or were cut off since.
pub record Known : Type 0 where
  pub last : World
  pub doubtful : List World

-- none is in doubt
abbrev pub settled_in : World → Known
settled_in w = record { last = w; doubtful = [] }

-- these are in doubt too
abbrev pub with_doubts : Known → List World → Known
with_doubts known worlds = record known { doubtful = known.doubtful ++ worlds }

-- a sync came as far as the first of its replies lead it, and what it makes of those behind them is in doubt
abbrev pub known_after_sync : Mechanism → List ℕ → Side → World → List Replied → List Replied → Known
known_after_sync k prefix side w front back = record {
  last = (course_in k prefix side w front).state;
  doubtful = reached_by (world_party k prefix side w) (course_in k prefix side w front) back;
}

abbrev pub IsAmongKnown : Known → World → Type 0
IsAmongKnown known w = (w ≡ known.last) ⊎ Contains known.doubtful w

abbrev pub IsKnownInCell : Cell → Mechanism → Side → Known → List ℕ → Type 0
IsKnownInCell cell k side known c =
    CellStandsFor cell k known.last side c ⊎ Any (λ w. CellStandsFor cell k w side c) known.doubtful

-- Events that leave what a side keeps led the worlds on, as what the other side does: the last one, and with it those in doubt,
-- to which acts of the side still lead from there. What stood for one of the worlds stands for one of those that they became.
pub record HaveMovedInCell (cell : Cell) (k : Mechanism) (side : Side) (known moved : Known)
    : Type 0 where
  pub last_later : IsLater k known.last moved.last
  pub doubtful_acted : All (IsActed k side moved.last) moved.doubtful
  pub stands : (c : List ℕ) → IsKnownInCell cell k side known c → IsKnownInCell cell k side moved c

-- ---- links

-- What lies between two moments, one after the other. An opening may be part of each: it gives one of the worlds that were
-- known, which is the last one where none was in doubt.
pub data CellLink (cell : Cell) (k : Mechanism) (side : Side) (a b : DiskState)
    : Known → Known → Type 0 where
  -- the client was opened, in the world whose record was read
  was_opened : (known : Known) (w : World) → IsAmongKnown known w
      → Always (CellStandsFor cell k w side) b → CellLink cell k side a b known (settled_in w)
  -- an act was acknowledged
  was_acknowledged : (known : Known) (w : World) → IsAmongKnown known w → (act : Act) → IsFairAct k w side act
      → Always (CellStandsFor cell k (act_in k w side act).next side) b
      → CellLink cell k side a b known (settled_in (act_in k w side act).next)
  -- a call on the disk failed in an act, or a crash cut it off: what stands now, the disk might have left meanwhile
  was_cut : (known : Known) (w : World) → IsAmongKnown known w → (act : Act) → IsFairAct k w side act
      → ((c : List ℕ) → b.image c → a.image c
      ⊎ (CellStandsFor cell k w side c ⊎ CellStandsFor cell k (act_in k w side act).next side c))
      → CellLink cell k side a b known (with_doubts known ((act_in k w side act).next ∷ []))
  -- a sync ended: it has settled what was in doubt before, all but the step in which a call on the disk failed
  was_synced : (known : Known) (w : World) → IsAmongKnown known w → (prefix : List ℕ) (front back : List Replied)
      → AreUnforged k prefix side w (front ++ back)
      → Always (IsKnownInCell cell k side (known_after_sync k prefix side w front back)) b
      → CellLink cell k side a b known (known_after_sync k prefix side w front back)
  -- a sync was cut off anywhere: what stands now, the disk might have left meanwhile
  was_cut_in_sync : (known : Known) (w : World) → IsAmongKnown known w → (prefix : List ℕ) (replies : List Replied)
      → AreUnforged k prefix side w replies
      → ((c : List ℕ) → b.image c → a.image c
      ⊎ IsKnownInCell cell k side (known_after_sync k prefix side w [] replies) c)
      → CellLink cell k side a b known (with_doubts known
      (reached_by (world_party k prefix side w) (begun (world_party k prefix side w) w) replies))
  -- nothing but what stood before was left: by a refusal, a crash between two calls, or an opening that was cut off
  was_left : (known : Known)
      → ((c : List ℕ) → b.image c → a.image c ⊎ IsKnownInCell cell k side known c)
      → CellLink cell k side a b known known
  -- the other side went on, whatever is in doubt here, and nothing but what stood before was left
  was_moved : (known moved : Known) → HaveMovedInCell cell k side known moved
      → ((c : List ℕ) → b.image c → a.image c ⊎ IsKnownInCell cell k side moved c)
      → CellLink cell k side a b known moved

-- bytes that are read without damage where what was read at that moment was
pub record IsWholeAsReadInCell (cell : Cell) (start : DiskState) (c : List ℕ) : Type 0 where
  pub read : List ℕ
  pub told : start.seen ≡ Some read
  pub undamaged : cell.undamaged read → cell.undamaged c

-- between two moments no image came but one that stood, one that is read without damage where what
-- was read was, or one that is read without damage
abbrev pub LeavesCellWhole : Cell → DiskState → DiskState → Type 0
LeavesCellWhole cell a b =
    (c : List ℕ) → b.image c → a.image c ⊎ (IsWholeAsReadInCell cell a c ⊎ cell.undamaged c)

-- Each image stands for the world that was acknowledged or opened last or for one in doubt; the first leads to the one, and
-- that to those, by acts of this side alone.
pub record CellStandsStill (cell : Cell) (k : Mechanism) (side : Side) (first : World)
    (known : Known) (disk : DiskState) : Type 0 where
  pub images : Always (IsKnownInCell cell k side known) disk
  pub last_later : IsLater k first known.last
  pub doubtful_later : All (IsLater k known.last) known.doubtful
  pub doubtful_acted : All (IsActed k side known.last) known.doubtful

-- moments of a disk, from one on at which it stands for the first world, and a link from each to the next
pub record AreLinkedInCell {X : Type 0} (cell : Cell) (state : X → DiskState) (moments : List X)
    (k : Mechanism) (side : Side) (first : World)
    (known : ℕ → Known) : Type 0 where
  pub begins : known 0 ≡ settled_in first
  pub stands : (a : X) → slice_get moments 0 ≡ Some a
      → Always (CellStandsFor cell k first side) (state a)
  pub links : (n : ℕ) (a b : X) → slice_get moments n ≡ Some a → slice_get moments (n + 1) ≡ Some b
      → CellLink cell k side (state a) (state b) (known n) (known (n + 1))

-- ---- where a client lies

abbrev pub IsKnown : Mechanism → Side → Known → List ℕ → Type 0
IsKnown = IsKnownInCell client_cell

abbrev pub HaveMoved : Mechanism → Side → Known → Known → Type 0
HaveMoved = HaveMovedInCell client_cell

abbrev pub Link : Mechanism → Side → DiskState → DiskState → Known → Known → Type 0
Link = CellLink client_cell

abbrev pub IsWholeAsRead : DiskState → List ℕ → Type 0
IsWholeAsRead = IsWholeAsReadInCell client_cell

abbrev pub LeavesWhole : DiskState → DiskState → Type 0
LeavesWhole = LeavesCellWhole client_cell

abbrev pub StandsStill : Mechanism → Side → World → Known → DiskState → Type 0
StandsStill = CellStandsStill client_cell

abbrev pub AreLinked : {X : Type 0} → (X → DiskState) → List X → Mechanism → Side → World
    → (ℕ → Known) → Type 0
AreLinked state moments k side first known =
    AreLinkedInCell client_cell state moments k side first known
