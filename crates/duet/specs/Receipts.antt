-- What the receipts of a script's packets tell.
use Rattle.std.specs.Prelude.{List, None, Option, Some, [], true, ◌∷◌, ◌≡◌, ⊤}
use Rattle.dr_base.specs.Position.{peer_of}
use Rattle.dr_base.specs.declared.position.Position.{Position}
use Rattle.dr_model.specs.Conversations.Views.{has_opened}
use Rattle.dr_model.specs.Machines.Acts.{Act, taking}
use Rattle.dr_model.specs.Machines.Events.{Event, SideCall, does, takes}
use Rattle.dr_model.specs.Machines.Worlds.{view_of}
use Rattle.dr_model.specs.Theorems.Receipts.{EndsWaiting}
use Rattle.kem_laws.specs.Mechanism.{Mechanism}
use Rattle.parties.specs.Shuts.{Shut}
use Rattle.scripts.specs.Deeds.{Deed, acts, fails, joins, reopens, stops, syncs}
use Rattle.scripts.specs.Sides.{deed_side}
use Rattle.duet.specs.Outcomes.{WorldBeside, deed_in}
use Rattle.duet.specs.Shuts.{shut_of}

-- a side takes a packet: in a call, in an event, in an act
abbrev pub IsTake : SideCall → Type 0
IsTake (takes source) = ⊤
IsTake _ = ⊥

abbrev pub IsTakeEvent : Event → Type 0
IsTakeEvent (does side call) = IsTake call
IsTakeEvent _ = ⊥

abbrev pub IsTaking : Option Act → Type 0
IsTaking (Some (taking packet)) = ⊤
IsTaking _ = ⊥

-- the call that failed, and was left to the next opening, took one
abbrev pub LeavesTake : Option (Shut (Option Act)) → Type 0
LeavesTake None = ⊥
LeavesTake (Some shut) = IsTaking shut.left

-- The side of a deed takes packets in it: by a call, by one in which its disk stops or fails, by an
-- opening that finds what such a call left, or by a sync.
abbrev pub TakesPackets : WorldBeside → Deed → Type 0
TakesPackets s (acts event) = IsTakeEvent event
TakesPackets s (stops n mode side call) = IsTake call
TakesPackets s (fails n side call) = IsTake call
TakesPackets s (reopens side) = LeavesTake (shut_of s.shuts side)
TakesPackets s (syncs side lost) = ⊤
TakesPackets s (joins side id) = ⊥

-- each own text of its that waits for a receipt before the deed, and doesn't after it, was opened
-- by the other side
abbrev pub DeedArrives : Mechanism → WorldBeside → Deed → Type 0
DeedArrives k s deed = (p : Position)
    → EndsWaiting s.ends (deed_in k s deed).next.ends (deed_side deed) p
    → has_opened (view_of s.ends (peer_of (deed_side deed))) p ≡ true

-- so it is at each deed of a run in which a side takes packets
unfoldable pub ReceiptsHold : Mechanism → WorldBeside → List Deed → Type 0
ReceiptsHold k s [] = ⊤
ReceiptsHold k s (deed ∷ deeds) =
    (TakesPackets s deed → DeedArrives k s deed) × ReceiptsHold k (deed_in k s deed).next deeds
