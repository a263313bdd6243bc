-- How a line names a side, and whose deed it is.
use Rattle.std.specs.Prelude.{ℕ, List, codes}
use Rattle.dr_base.specs.declared.position.Side.{Side}
use Rattle.dr_base.specs.declared.position.Side.TheVariants.{First, Second}
use Rattle.dr_model.specs.Machines.Events.{Event, cuts, does, seeds, shows_awaiting, shows_inbox, shows_state}
use Rattle.scripts.specs.Deeds.{Deed, acts, fails, joins, reopens, stops, syncs}

-- a side
unfoldable pub side_text : Side → List ℕ
side_text First = codes "first "
side_text Second = codes "second "

-- the side whose event it is
abbrev pub acting_side : Event → Side
acting_side (seeds seed) = First
acting_side (does side call) = side
acting_side (shows_inbox side) = side
acting_side (shows_awaiting side) = side
acting_side (shows_state side) = side
acting_side (cuts took event) = acting_side event

-- the side whose deed it is
abbrev pub deed_side : Deed → Side
deed_side (acts event) = acting_side event
deed_side (stops n mode side call) = side
deed_side (fails n side call) = side
deed_side (reopens side) = side
deed_side (syncs side lost) = side
deed_side (joins side id) = side
