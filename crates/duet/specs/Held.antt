-- Both sides, as the code holds them.
use Rattle.std.specs.Prelude.{◌<◌, Bool, ℕ, List, [], None, length}
use Rattle.dr_base.specs.declared.position.Side.{Side}
use Rattle.dr_base.specs.declared.position.Side.TheVariants.{First, Second}
use Rattle.relay_core.specs.Boxes.{Box}
use Rattle.boxes.specs.Posts.{Post}
use Rattle.session_model.specs.Clients.{Client}
use Rattle.dr_model.specs.Conversations.Formats.{Formats, side_format}
use Rattle.dr_model.specs.Machines.Sides.{Sides, client_of, step_on}
use Rattle.dr_model.specs.Machines.Steps.{Shown, Step, places, texts}
use Rattle.dr_model.specs.Machines.Draws.{Draws}
use Rattle.dr_model.specs.Machines.Events.{Event, cuts, shows_awaiting, shows_inbox}
use Rattle.kem_laws.specs.Mechanism.{Mechanism}
use Rattle.client.specs.Beginning.{begin_of, begun_client}
use Rattle.duet.specs.Outcomes.{SidesBeside, SidesPlayed}
use Rattle.duet.specs.Relay.{opening_boxes}
use Rattle.parties.specs.Shuts.{PartyNow, open_party}
use Rattle.duet.specs.Shuts.{Shuts}

-- one of two sides that seal their texts so, at the beginning of a conversation
abbrev pub opening_of : Mechanism → List ℕ → Formats → Side → Client
opening_of k key formats side =
    begun_client k (begin_of side (side_format formats side) (record { bytes = key }))

-- the sides, what was left of those that are closed, the boxes of their relay, and how many packets the network has room for
pub record DuetNow : Type 0 where
  pub sides : Sides
  pub shuts : Shuts Client
  pub boxes : List Box
  pub room : ℕ

abbrev pub duet_now : List ℕ → PartyNow → PartyNow → List Post → Draws → List Box → ℕ → DuetNow
duet_now key first second posts draws boxes room = record {
  sides = record { key = key; first = first.kept; second = second.kept; posts = posts; draws = draws };
  shuts = record { first = first.shut; second = second.shut };
  boxes = boxes;
  room = room;
}

-- both sides at the beginning of a conversation, over a relay that may guard their boxes
abbrev pub opening_duet : Mechanism → List ℕ → Formats → Bool → ℕ → DuetNow
opening_duet k key formats guarded room =
    let first = opening_of k key formats First in
    let second = opening_of k key formats Second in
    duet_now key (open_party first) (open_party second) [] (record { made = 0; given = None })
    (opening_boxes guarded key first) room

-- the network has room for a packet more
abbrev pub HasPostRoom : DuetNow → Type 0
HasPostRoom duet = length duet.sides.posts < duet.room

-- both sides, and what stands beside them
abbrev pub beside : DuetNow → SidesBeside
beside duet = record { ends = duet.sides; boxes = duet.boxes; shuts = duet.shuts }

-- what is held after a deed
abbrev pub after_deed : DuetNow → SidesPlayed → DuetNow
after_deed duet played = record duet { sides = played.next.ends; boxes = played.next.boxes; shuts = played.next.shuts }

-- what is held after a step
abbrev pub after_step : DuetNow → Step Sides → DuetNow
after_step duet made = record duet { sides = made.next }

-- other draws
abbrev pub with_draws : DuetNow → Draws → DuetNow
with_draws duet draws = record duet { sides = record duet.sides { draws = draws } }

abbrev pub stepped : Mechanism → DuetNow → Event → DuetNow
stepped k duet event = after_step duet (step_on k duet.sides event)

-- what an event shows
abbrev pub shown : Event → Sides → Shown
shown (shows_inbox side) s = texts (client_of s side).inbox
shown (shows_awaiting side) s = places (client_of s side).state.awaiting
shown (cuts took event) s = shown event s
shown _ s = texts []
