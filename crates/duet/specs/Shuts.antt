-- What was left of both sides by calls on their disks that failed, and which deeds ask for an open client.
use Rattle.std.specs.Prelude.{Bool, None, Option, false, true}
use Rattle.dr_base.specs.declared.position.Side.{Side}
use Rattle.dr_base.specs.declared.position.Side.TheVariants.{First, Second}
use Rattle.dr_model.specs.Machines.Acts.{Act}
use Rattle.dr_model.specs.Machines.Events.{Event, does, seeds, shows_inbox, shows_state}
use Rattle.dr_model.specs.Machines.Sides.{Sides, act_of}
use Rattle.scripts.specs.Deeds.{Deed, acts, reopens}
use Rattle.parties.specs.Shuts.{Shut}

-- of both sides; nothing of one whose client is open
pub record Shuts (L : Type 0) : Type 0 where
  pub first : Option (Shut L)
  pub second : Option (Shut L)

abbrev pub both_open : {L : Type 0} → Shuts L
both_open = record { first = None; second = None }

abbrev pub shut_of : {L : Type 0} → Shuts L → Side → Option (Shut L)
shut_of shuts First = shuts.first
shut_of shuts Second = shuts.second

abbrev pub with_shut : {L : Type 0} → Shuts L → Side → Option (Shut L) → Shuts L
with_shut shuts First shut = record shuts { first = shut }
with_shut shuts Second shut = record shuts { second = shut }

-- ---- deeds of a closed client

-- a given seed is no side's, and what a side keeps is shown all the same
abbrev pub asks_open : Event → Bool
asks_open (seeds seed) = false
asks_open (shows_inbox side) = false
asks_open (shows_state side) = false
asks_open _ = true

-- whether a deed asks for an open client
abbrev pub needs_open : Deed → Bool
needs_open (acts event) = asks_open event
needs_open (reopens side) = false
needs_open _ = true

-- ---- what an event comes to

-- the act of its side, where it is one
abbrev pub act_of_event : Sides → Event → Option Act
act_of_event s (does side call) = act_of s side call
act_of_event s _ = None
