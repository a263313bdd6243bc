-- Both sides, the network between them, and their steps.
use Rattle.std.specs.Prelude.{Bool, Err, List, None, Ok, Option, Result, Some, [], false, length, option_map, true, ℕ, ◌++◌, ◌∷◌}
use Rattle.boxes.specs.Posts.{Post}
use Rattle.dr_base.specs.declared.position.Side.{Side}
use Rattle.dr_base.specs.declared.position.Side.TheVariants.{First, Second}
use Rattle.kem_laws.specs.Mechanism.{Mechanism}
use Rattle.session_model.specs.Clients.{Client, SaidText, say_check, say_on, summary_of}
use Rattle.session_model.specs.Contents.{Content}
use Rattle.session_model.specs.declared.answer.Answer.TheVariants.{Awaiting, Inbox, Said, Seeded, State as InNumbers}
use Rattle.session_model.specs.declared.answer.Refusal.{Refusal}
use Rattle.session_model.specs.declared.answer.Which.TheVariants.{OfId, Oldest}
use Rattle.dr_model.specs.Machines.Acts.{Act, act_on, dropping, saying, standing_with, taking}
use Rattle.dr_model.specs.Machines.Draws.{Draws, after_draw, next_seed}
use Rattle.dr_model.specs.Machines.Events.{Event, SideCall, cuts, does, drops, drops_long, says, seeds, shows_awaiting, shows_inbox, shows_state, takes}
use Rattle.dr_model.specs.Machines.Network.{packet_given}
use Rattle.dr_model.specs.Machines.Steps.{Step, amount_of, cut_step, nothing, places, settled, step, texts}

pub record Sides : Type 0 where
  -- the shared key, from which the draws come
  pub key : List ℕ
  pub first : Client
  pub second : Client
  -- the packets that the network got, in order
  pub posts : List Post
  pub draws : Draws

abbrev pub client_of : Sides → Side → Client
client_of s First = s.first
client_of s Second = s.second

abbrev pub with_client : Sides → Side → Client → Sides
with_client s First client = record s { first = client }
with_client s Second client = record s { second = client }

abbrev pub said_on : Sides → Side → Result SaidText Refusal → Step Sides
said_on s side (Ok said) =
    step (Said said.post.position) (record (with_client s side said.next) { posts = s.posts ++ said.post ∷ [] })
said_on s side (Err refusal) = settled s (Err refusal)

-- a draw is made only where the content may be said and needs a seed, and is used up then
abbrev pub saying_on : Mechanism → Sides → Side → Content → Result Bool Refusal → Step Sides
saying_on k s side content (Err refusal) = settled s (Err refusal)
saying_on k s side content (Ok false) = said_on s side (say_on k (client_of s side) content [])
saying_on k s side content (Ok true) =
    said_on (record s { draws = after_draw s.draws }) side (say_on k (client_of s side) content (next_seed s.key s.draws))

-- what a side makes of an act by itself: the other side, the network and the draws stay as they are
abbrev pub settled_on : Sides → Side → Result (Step Client) Refusal → Step Sides
settled_on s side (Ok made) =
    record { answer = made.answer; shown = made.shown; next = with_client s side made.next }
settled_on s side (Err refusal) = settled s (Err refusal)

-- or the network holds no packet for it
abbrev pub acted_on : Mechanism → Sides → Side → Option Act → Step Sides
acted_on k s side None = nothing s
acted_on k s side (Some act) = settled_on s side (act_on k (client_of s side) act)

-- the seed that is drawn for a content that was checked, where it needs one
abbrev pub draw_for : Sides → Result Bool Refusal → Option (List ℕ)
draw_for s (Ok true) = Some (next_seed s.key s.draws)
draw_for s _ = None

-- the act that a call of a side comes to, unless the network holds no packet for it
abbrev pub act_of : Sides → Side → SideCall → Option Act
act_of s side (says content) =
    Some (saying content (draw_for s (say_check (client_of s side) content)))
act_of s side (takes source) = option_map taking (packet_given s.posts side source)
act_of s side (drops items amount) =
    Some (dropping (Oldest items (amount_of amount (standing_with (client_of s side) items))))
act_of s side (drops_long id) = Some (dropping (OfId id))

-- what both sides make of a call of one: the network gets the packet of what is said
abbrev pub called_on : Mechanism → Sides → Side → SideCall → Step Sides
called_on k s side (says content) =
    saying_on k s side content (say_check (client_of s side) content)
called_on k s side call = acted_on k s side (act_of s side call)

-- what both sides make of what happens
abbrev pub step_on : Mechanism → Sides → Event → Step Sides
step_on k s (seeds seed) = step Seeded (record s { draws = record s.draws { given = Some seed } })
step_on k s (does side call) = called_on k s side call
step_on k s (shows_inbox side) =
    let inbox = (client_of s side).inbox in
    record { answer = Inbox (length inbox); shown = texts inbox; next = s }
step_on k s (shows_awaiting side) =
    let waiting = (client_of s side).state.awaiting in
    record { answer = Awaiting (length waiting); shown = places waiting; next = s }
step_on k s (shows_state side) = step (InNumbers (summary_of (client_of s side))) s
step_on k s (cuts took h) = let made = step_on k s h in cut_step (record s { draws = made.next.draws }) took made
