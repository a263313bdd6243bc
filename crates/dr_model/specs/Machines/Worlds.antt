-- The machine: what becomes of a conversation and of both sides' views, event by event.
use Rattle.std.specs.Cmp.Lexicographic.{pointwise}
use Rattle.std.specs.Prelude.{Bool, Err, List, None, Ok, Option, Result, Some, [], false, filter, find, if◌then◌else◌, is_none, length, nat_eq, nat_le, nat_lt, not, option_map, slice_get, true, ℕ, ◌+◌, ◌-◌, ◌∷◌}
use Rattle.dr_base.specs.declared.limits.TheConstants.{INDEX_LIMIT, LAST_EPOCH, KEPT_LIMIT, INBOX_LIMIT, OUTBOX_LIMIT}
use Rattle.boxes.specs.Entries.{Entry}
use Rattle.boxes.specs.Posts.{Post}
use Rattle.cka.specs.Agreement.{agreement_size}
use Rattle.dr_base.specs.Position.{is_own, position_at}
use Rattle.dr_base.specs.declared.position.Position.{Position}
use Rattle.dr_base.specs.declared.position.Side.{Side}
use Rattle.dr_base.specs.declared.position.Side.TheVariants.{First, Second}
use Rattle.kem_laws.specs.Mechanism.{Mechanism}
use Rattle.packet.specs.Packet.{Fields}
use Rattle.packet.specs.Reading.{read_packet}
use Rattle.packet.specs.declared.fault.Malformed.{Malformed}
use Rattle.session_model.specs.Contents.{Content, content_check, once_checked}
use Rattle.session_model.specs.States.{State}
use Rattle.session_model.specs.Ways.{Way, way_of}
use Rattle.session_model.specs.Leaving.{drop_check}
use Rattle.session_model.specs.declared.answer.Answer.TheVariants.{Awaiting, Inbox, Opened, Said, Seeded, State as InNumbers}
use Rattle.session_model.specs.declared.answer.Items.{Items}
use Rattle.session_model.specs.declared.answer.Refusal.{Refusal}
use Rattle.session_model.specs.declared.answer.Refusal.TheVariants.{BadTag, EpochFull, InboxFull, LastEpoch, Malformed as Unreadable, NoPair, OutboxFull, OwnPacket, SkipLimit, Spent}
use Rattle.session_model.specs.declared.answer.Which.{Which}
use Rattle.session_model.specs.declared.answer.Which.TheVariants.{OfId, Oldest}
use Rattle.dr_model.specs.Conversations.Formats.{Formats, side_format}
use Rattle.dr_model.specs.Conversations.Conversation.{Conversation, count_of, is_said, next_position, opening_conversation, positions, with_text, with_turn}
use Rattle.dr_model.specs.Conversations.Posts.{posts}
use Rattle.dr_model.specs.Conversations.Receipts.{body_in}
use Rattle.dr_model.specs.Conversations.ViewStates.{state_of}
use Rattle.dr_model.specs.Conversations.Views.{View, after_drop, after_opening, after_text, after_turn, has_opened, inbox_of, missing_of, opening_view, outbox_of, standing_of}
use Rattle.dr_model.specs.Machines.Draws.{Draws, after_draw, next_seed}
use Rattle.dr_model.specs.Machines.Events.{Event, PacketSource, SideCall, cuts, does, drops, drops_long, of_bytes, of_flip, of_number, of_position, says, seeds, shows_awaiting, shows_inbox, shows_state, takes}
use Rattle.dr_model.specs.Machines.Network.{flipped_at}
use Rattle.dr_model.specs.Machines.Steps.{Step, amount_of, cut_step, leaving, nothing, places, settled, step, texts}

pub record World : Type 0 where
  pub conversation : Conversation
  pub first : View
  pub second : View
  pub draws : Draws

-- where a conversation begins
abbrev pub opening_world : List ℕ → Formats → World
opening_world key formats = record {
  conversation = opening_conversation key formats;
  first = opening_view First;
  second = opening_view Second;
  draws = record { made = 0; given = None };
}

abbrev pub view_of : World → Side → View
view_of w First = w.first
view_of w Second = w.second

abbrev pub with_view : World → Side → View → World
with_view w First v = record w { first = v }
with_view w Second v = record w { second = v }

-- the texts and packets that stand in a side's boxes
abbrev pub inbox_in : World → Side → List Entry
inbox_in w side = inbox_of w.conversation (view_of w side)

abbrev pub outbox_in : Mechanism → World → Side → List Post
outbox_in k w side = outbox_of k w.conversation (view_of w side)

-- whether a side may say one more, and then whether that needs a seed
abbrev pub may_speak : Mechanism → World → Side → Result Bool Refusal
may_speak k w side =
    let v = view_of w side in
    if nat_le OUTBOX_LIMIT (length (outbox_in k w side)) then Err OutboxFull
    else (if is_own side v.epoch then (if nat_le INDEX_LIMIT (count_of w.conversation v.epoch) then Err EpochFull else Ok false)
    else (if nat_le LAST_EPOCH v.epoch then Err LastEpoch else Ok true))

-- whether it may say a content, and then whether that needs a seed
abbrev pub may_say : Mechanism → World → Side → Content → Result Bool Refusal
may_say k w side content =
    once_checked (content_check (side_format w.conversation.formats (view_of w side).side) content) (may_speak k w side)

-- the next one of the side's epoch
abbrev pub said_here : World → Side → Content → Step World
said_here w side content =
    let c = w.conversation in
    let v = view_of w side in
    let p = next_position c.said v.epoch in
    step (Said p)
    (with_view (record w { conversation = with_text c v.epoch (body_in c v content) }) side (after_text v p))

-- the first one of the side's next epoch
abbrev pub said_next : World → Side → List ℕ → Content → Step World
said_next w side seed content =
    let c = w.conversation in
    let v = view_of w side in
    step (Said (position_at (v.epoch + 1) 1))
    (with_view (record w { conversation = with_turn c seed (v.epoch + 1) (body_in c v content) }) side (after_turn v))

abbrev pub saying_in : Mechanism → World → Side → Content → Result Bool Refusal → Step World
saying_in k w side content (Err refusal) = settled w (Err refusal)
saying_in k w side content (Ok false) = said_here w side content
saying_in k w side content (Ok true) =
    let seed = next_seed w.conversation.key w.draws in
    let drawn = record w { draws = after_draw w.draws } in
    if is_none (k.meaning.pair_of seed) then settled drawn (Err NoPair) else said_next drawn side seed content

-- a side takes the packet of a position of the conversation
abbrev pub taking_in : World → Side → Position → Result (Step World) Refusal
taking_in w side p =
    let v = view_of w side in
    let opened = after_opening w.conversation v p in
    if is_own side p.epoch then Err (OwnPacket p.epoch)
    else (if has_opened v p then Err (Spent p)
    else (if nat_lt KEPT_LIMIT (length (missing_of w.conversation opened)) then Err
    (SkipLimit (length (missing_of w.conversation opened)))
    else (if nat_le INBOX_LIMIT (length (inbox_in w side)) then Err InboxFull
    else Ok (step (Opened p) (with_view w side opened)))))

-- a side takes the packet of a position, if the network holds it
abbrev pub taking_at : World → Side → Option Position → Step World
taking_at w side None = nothing w
taking_at w side (Some p) = settled w (taking_in w side p)

-- the position of a text that was said
abbrev pub said_at : Conversation → Position → Option Position
said_at c p = if is_said c p then Some p else None

-- the positions of the other side's texts, in the order that they were said
abbrev pub positions_of_peer : Conversation → Side → List Position
positions_of_peer c side = filter (λ p. not (is_own side p.epoch)) (positions c)

-- one of them, counted from 1
abbrev pub nth_of_peer : Conversation → Side → ℕ → Option Position
nth_of_peer c side nth = if nat_le 1 nth then slice_get (positions_of_peer c side) (nth - 1) else None

-- the first reason against a packet; where there is a way to its key, the tag differs (`IsUnforged` in `Fairness`)
abbrev pub way_refusal : Result Way Refusal → Refusal
way_refusal (Err refusal) = refusal
way_refusal (Ok way) = BadTag

abbrev pub read_refusal : Mechanism → State → Result Fields Malformed → Refusal
read_refusal k s (Err fault) = Unreadable fault
read_refusal k s (Ok f) = way_refusal (way_of k s f)

-- why a session refuses bytes that neither side's session made
abbrev pub refusal_of : Mechanism → State → List ℕ → Refusal
refusal_of k s bytes = read_refusal k s (read_packet (agreement_size k) bytes)

-- the position of the text whose packet the bytes are
abbrev pub made_at : Mechanism → World → List ℕ → Option Position
made_at k w bytes =
    option_map (λ post. post.position) (find (λ post. pointwise nat_eq post.packet bytes) (posts k w.conversation))

abbrev pub taking_made : Mechanism → World → Side → List ℕ → Option Position → Result (Step World) Refusal
taking_made k w side bytes (Some p) = taking_in w side p
taking_made k w side bytes None = Err (refusal_of k (state_of k w.conversation (view_of w side)) bytes)

-- a side takes bytes, if the network has them to give
abbrev pub taking_given : Mechanism → World → Side → Option (List ℕ) → Step World
taking_given k w side None = nothing w
taking_given k w side (Some bytes) = settled w (taking_made k w side bytes (made_at k w bytes))

-- a side takes a packet
abbrev pub taking_of : Mechanism → World → Side → PacketSource → Step World
taking_of k w side (of_position p) = taking_at w side (said_at w.conversation p)
taking_of k w side (of_number nth) = taking_at w side (nth_of_peer w.conversation side nth)
taking_of k w side (of_flip p bit) =
    taking_given k w side (flipped_at (posts k w.conversation) p bit)
taking_of k w side (of_bytes bytes) = taking_given k w side (Some bytes)

-- how many items stand in a box of a side
abbrev pub standing_in : Mechanism → World → Side → Items → ℕ
standing_in k w side items = standing_of k w.conversation (view_of w side) items

-- items leave a box of a side
abbrev pub dropping_in : Mechanism → World → Side → Which → Result (Step World) Refusal
dropping_in k w side which =
    leaving which (drop_check which (inbox_in w side) (outbox_in k w side))
    (with_view w side (after_drop w.conversation (view_of w side) which))

-- what becomes of a call of a side
abbrev pub called_in : Mechanism → World → Side → SideCall → Step World
called_in k w side (says content) = saying_in k w side content (may_say k w side content)
called_in k w side (takes source) = taking_of k w side source
called_in k w side (drops items amount) =
    settled w (dropping_in k w side (Oldest items (amount_of amount (standing_in k w side items))))
called_in k w side (drops_long id) = settled w (dropping_in k w side (OfId id))

-- what becomes of what happens
abbrev pub step_of : Mechanism → World → Event → Step World
step_of k w (seeds seed) = step Seeded (record w { draws = record w.draws { given = Some seed } })
step_of k w (does side call) = called_in k w side call
step_of k w (shows_inbox side) =
    record { answer = Inbox (length (inbox_in w side)); shown = texts (inbox_in w side); next = w }
step_of k w (shows_awaiting side) =
    let waiting = (view_of w side).awaiting in
    record { answer = Awaiting (length waiting); shown = places waiting; next = w }
step_of k w (shows_state side) =
    step (InNumbers (record {
      epoch = (view_of w side).epoch;
      missing = length (missing_of w.conversation (view_of w side));
      inbox = length (inbox_in w side);
      outbox = length (outbox_in k w side);
    })) w
step_of k w (cuts took h) = let made = step_of k w h in cut_step (record w { draws = made.next.draws }) took made

-- what stands after all that happened
abbrev pub run_of : Mechanism → World → List Event → World
run_of k w [] = w
run_of k w (h ∷ hs) = run_of k (step_of k w h).next hs
