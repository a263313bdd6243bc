-- How far a side has come in a conversation.
use Rattle.std.specs.List.{list_any}
use Rattle.std.specs.Prelude.{Bool, List, [], count_by, drop, filter, if◌then◌else◌, map, max, nat_le, suc, true, zero, ℕ, ◌++◌, ◌+◌, ◌==◌, ◌∷◌}
use Rattle.boxes.specs.Entries.{Entry, entry_with, is_of}
use Rattle.boxes.specs.Posts.{Post}
use Rattle.dr_base.specs.Position.{is_at, is_own, position_at}
use Rattle.dr_base.specs.declared.position.Position.{Position}
use Rattle.dr_base.specs.declared.position.Side.{Side}
use Rattle.kem_laws.specs.Mechanism.{Mechanism}
use Rattle.session_model.specs.Awaiting.{still_waiting, waiting_with}
use Rattle.session_model.specs.Leaving.{held_in}
use Rattle.session_model.specs.declared.answer.Items.{Items}
use Rattle.session_model.specs.declared.answer.Items.TheVariants.{Packets, Texts}
use Rattle.session_model.specs.declared.answer.Which.{Which}
use Rattle.session_model.specs.declared.answer.Which.TheVariants.{OfId, Oldest}
use Rattle.dr_model.specs.Conversations.Conversation.{Conversation, count_of, kind_at, receipt_at, text_at}
use Rattle.dr_model.specs.Conversations.Indices.{missing_to, reach}
use Rattle.dr_model.specs.Conversations.Posts.{posts_of}
use Rattle.dr_model.specs.Conversations.Standing.{done_first, done_which, standing}

pub record View : Type 0 where
  pub side : Side
  -- the greatest epoch that the side has reached
  pub epoch : ℕ
  -- the positions that it has opened, in the order that their packets arrived
  pub arrived : List Position
  -- the positions whose texts have left its inbox
  pub done : List Position
  -- how many of the oldest packets have left its outbox
  pub dropped : ℕ
  -- its own texts that wait for a receipt, in the order that they were said
  pub awaiting : List Position
  -- its session has the keys of its boxes at a relay, as each has that begins now
  pub keyed : Bool

-- where a conversation begins
abbrev pub opening_view : Side → View
opening_view side = record {
  side = side;
  epoch = 0;
  arrived = [];
  done = [];
  dropped = 0;
  awaiting = [];
  keyed = true;
}

-- the side has opened the packet of this position
abbrev pub has_opened : View → Position → Bool
has_opened v p = list_any (is_at p) v.arrived

-- how often it has opened it
abbrev pub times_opened : View → Position → ℕ
times_opened v p = count_by (is_at p) v.arrived

-- the view once the side has opened the packet of a position, whose receipt it obeys
abbrev pub after_opening : Conversation → View → Position → View
after_opening c v p = record v {
  arrived = v.arrived ++ p ∷ [];
  epoch = max v.epoch p.epoch;
  awaiting = still_waiting (receipt_at c p) v.awaiting;
}

-- the view once the side has said a text, which waits, in the epoch that stands
abbrev pub after_text : View → Position → View
after_text v p = record v { awaiting = waiting_with v.awaiting p }

-- and once it has begun an epoch of its own with one
abbrev pub after_turn : View → View
after_turn v = record v { epoch = v.epoch + 1; awaiting = waiting_with v.awaiting (position_at (v.epoch + 1) 1) }

-- the indices of an epoch among positions
abbrev pub indices_in : List Position → ℕ → List ℕ
indices_in arrived epoch = map (λ p. p.index) (filter (λ p. p.epoch == epoch) arrived)

-- How far a peer's epoch was read: the latest one up to the greatest index that was opened, earlier ones to their end,
-- which the side learns when the next begins. The latest is the reached epoch or the one before it.
abbrev pub reach_in : Conversation → View → ℕ → ℕ
reach_in c v epoch = if nat_le v.epoch (epoch + 1) then reach (indices_in v.arrived epoch) else count_of c epoch

-- the positions of a peer's epoch that were passed and not opened
abbrev pub missing_in : Conversation → View → ℕ → List Position
missing_in c v epoch =
    map (λ index. record { epoch = epoch; index = index }) (missing_to (indices_in v.arrived epoch) (reach_in c v epoch))

-- those of all peer's epochs below one, in ascending order
unfoldable pub missing_below : Conversation → View → ℕ → List Position
missing_below c v zero = []
missing_below c v (suc epoch) = missing_below c v epoch ++ (if is_own v.side epoch then [] else missing_in c v epoch)

-- the positions of peer's epochs up to the reached one that were passed and not opened
abbrev pub missing_of : Conversation → View → List Position
missing_of c v = missing_below c v (v.epoch + 1)

-- the text of a position, under it
abbrev pub entry_at : Conversation → Position → Entry
entry_at c p = entry_with p (kind_at c p) (text_at c p)

-- all texts that the side has opened, in the order of their arrival
abbrev pub history_of : Conversation → View → List Entry
history_of c v = map (entry_at c) v.arrived

-- the texts that stand in its inbox, the oldest first: those that arrived and aren't done
abbrev pub inbox_of : Conversation → View → List Entry
inbox_of c v = map (entry_at c) (standing v.arrived v.done)

-- the packets that stand in its outbox, the oldest first
abbrev pub outbox_of : Mechanism → Conversation → View → List Post
outbox_of k c v = drop v.dropped (posts_of k c v.side)

-- how many of these items stand in their box
abbrev pub standing_of : Mechanism → Conversation → View → Items → ℕ
standing_of k c v items = held_in (inbox_of c v) (outbox_of k c v) items

-- the view once items have left its boxes
abbrev pub after_drop : Conversation → View → Which → View
after_drop c v (Oldest Texts n) = record v { done = done_first v.arrived v.done n }
after_drop c v (Oldest Packets n) = record v { dropped = v.dropped + n }
after_drop c v (OfId id) = record v { done = done_which (λ p. is_of id (entry_at c p)) v.arrived v.done }
