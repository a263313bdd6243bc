-- What a line of a script says: an event of both sides, a call in which a disk stops or fails once, a client that opens again,
-- a sync of a side with the relay, or a look at a long text.
use Rattle.std.specs.Prelude.{ℕ, Option, ⊤}
use Rattle.dr_base.specs.declared.position.Side.{Side}
use Rattle.dr_disk.specs.declared.call.Mode.{Mode}
use Rattle.dr_model.specs.Machines.Events.{Event, SideCall}
use Rattle.dr_model.specs.Theorems.Fairness.{IsSeedWhole}

pub data Deed : Type 0 where
  acts : Event → Deed
  -- the disk of a side stops once this many writes and syncs of its call have passed, and crashes so
  stops : ℕ → Mode → Side → SideCall → Deed
  -- the write or sync of this number, from 1, of a side's call fails
  fails : ℕ → Side → SideCall → Deed
  -- the closed client of a side opens again
  reopens : Side → Deed
  -- a side syncs with the relay; the reply to the request of this number, from 1, is lost, and the link fails there
  syncs : Side → Option ℕ → Deed
  -- a side shows the long text of an id, whose parts stand in its inbox
  joins : Side → ℕ → Deed

-- a seed that is given has 32 bytes
abbrev pub HasWholeSeed : Deed → Type 0
HasWholeSeed (acts event) = IsSeedWhole event
HasWholeSeed _ = ⊤
