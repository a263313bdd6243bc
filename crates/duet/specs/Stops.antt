-- What comes of an event in which the disk of its side stops.
use Rattle.std.specs.Prelude.{Bool, None, Option, Some, ℕ}
use Rattle.dr_disk.specs.declared.call.Mode.{Mode}
use Rattle.dr_model.specs.Machines.Events.{Event, cuts}
use Rattle.dr_model.specs.Machines.Sides.{Sides, client_of, step_on}
use Rattle.dr_model.specs.Machines.Steps.{Step}
use Rattle.dr_model.specs.Machines.WorldSides.{kept_in}
use Rattle.dr_model.specs.Machines.Worlds.{World, step_of}
use Rattle.dr_base.specs.declared.position.Side.{Side}
use Rattle.kem_laws.specs.Mechanism.{Mechanism}
use Rattle.scripts.specs.Sides.{acting_side}
use Rattle.parties.specs.Stops.{cut_of, cut_by}

-- an event that is cut off so
abbrev pub cut_event : Option Bool → Event → Event
cut_event None event = event
cut_event (Some replaced) event = cuts replaced event

-- ---- a stop, once this many writes and syncs have passed, and a crash in this way

-- of a side, in a step of both
unfoldable pub stopped_sides : Side → ℕ → Mode → Sides → Step Sides → Step Sides
stopped_sides side n mode before made =
    cut_by (cut_of n mode (client_of before side) (client_of made.next side)) before made

-- of the side whose event it is: what the event comes to
unfoldable pub stopped_on : Mechanism → Sides → ℕ → Mode → Event → Event
stopped_on k s n mode event =
    let side = acting_side event in
    cut_event (cut_of n mode (client_of s side) (client_of (step_on k s event).next side)) event

-- and in a world
unfoldable pub stopped_in : Mechanism → World → ℕ → Mode → Event → Event
stopped_in k w n mode event =
    let side = acting_side event in
    cut_event (cut_of n mode (kept_in k w side) (kept_in k (step_of k w event).next side)) event
