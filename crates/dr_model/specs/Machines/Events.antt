-- What may happen in a conversation.
use Rattle.std.specs.Prelude.{Bool, List, ℕ}
use Rattle.dr_base.specs.declared.position.Position.{Position}
use Rattle.dr_base.specs.declared.position.Side.{Side}
use Rattle.session_model.specs.Contents.{Content}
use Rattle.session_model.specs.declared.answer.Amount.{Amount}
use Rattle.session_model.specs.declared.answer.Items.{Items}

-- which packet a side takes
pub data PacketSource : Type 0 where
  -- that of a position, as the network holds it
  of_position : Position → PacketSource
  -- that which the other side made, counted from 1 in the order that the network got them
  of_number : ℕ → PacketSource
  -- that of a position with one bit changed
  of_flip : Position → ℕ → PacketSource
  -- any bytes
  of_bytes : List ℕ → PacketSource

-- what a side is called to do
pub data SideCall : Type 0 where
  -- it says a text, or a part of a long one
  says : Content → SideCall
  -- it takes a packet
  takes : PacketSource → SideCall
  -- its oldest texts leave its inbox, or its oldest packets its outbox
  drops : Items → Amount → SideCall
  -- the parts of the long text of an id leave its inbox
  drops_long : ℕ → SideCall

pub data Event : Type 0 where
  -- the next draw is this seed
  seeds : List ℕ → Event
  -- a side does what it is called to do
  does : Side → SideCall → Event
  -- a side shows its inbox
  shows_inbox : Side → Event
  -- a side shows which of its own texts wait for a receipt
  shows_awaiting : Side → Event
  -- a side shows what it holds, in numbers
  shows_state : Side → Event
  -- a crash at any moment of an event, or a failing call on the disk, cuts it off: it took effect or it didn't, which the
  -- next opening of the side settles
  cuts : (took : Bool) → Event → Event
