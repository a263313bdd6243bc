-- What one side says, the other opens.
use Rattle.std.specs.Prelude.{All, List, Ok, Option, [], false, true, ℕ, ◌++◌, ◌∷◌, ◌≡◌}
use Rattle.boxes.specs.Entries.{entry_with}
use Rattle.boxes.specs.Posts.{Post}
use Rattle.dr_base.specs.Position.{is_own, peer_of}
use Rattle.dr_base.specs.declared.position.Position.{Position}
use Rattle.dr_base.specs.declared.position.Side.{Side}
use Rattle.kem_laws.specs.Mechanism.{Mechanism}
use Rattle.session_model.specs.Clients.{take_on}
use Rattle.session_model.specs.Contents.{Content}
use Rattle.session_model.specs.declared.answer.Answer.TheVariants.{Opened, Said}
use Rattle.dr_model.specs.Conversations.Conversation.{Conversation, is_said}
use Rattle.dr_model.specs.Conversations.Views.{entry_at, has_opened, history_of}
use Rattle.dr_model.specs.Machines.Acts.{saying, taking}
use Rattle.dr_model.specs.Machines.Events.{Event}
use Rattle.dr_model.specs.Machines.Steps.{Step}
use Rattle.dr_model.specs.Machines.WorldActs.{act_in}
use Rattle.dr_model.specs.Machines.WorldSides.{kept_in}
use Rattle.dr_model.specs.Machines.Worlds.{World, outbox_in, run_of, view_of}
use Rattle.dr_model.specs.Theorems.Acting.{IsFairAct}
use Rattle.dr_model.specs.Theorems.Fairness.{IsSeedWhole, IsUnforged}
use Rattle.dr_model.specs.Theorems.Headline.{IsWithinLimits, times_opened_by}
use Rattle.dr_model.specs.Theorems.LawfulWorlds.{IsLawfulWorld}

-- a side's content stands at this position
pub record IsSpoken (c : Conversation) (side : Side) (content : Content) (p : Position)
    : Type 0 where
  pub said : is_said c p ≡ true
  pub entry_is : entry_at c p ≡ entry_with p content.kind content.bytes
  pub own : is_own side p.epoch ≡ true

-- a side has yet to open a packet, which is within the limits for it
pub record IsAwaited (w : World) (side : Side) (post : Post) : Type 0 where
  pub unopened : has_opened (view_of w side) post.position ≡ false
  pub within : IsWithinLimits w side post.position

-- By this step a side opens a packet: its content comes last in the history, in which nothing else
-- stands under its position. And so does the side's session.
pub record OpensTo (k : Mechanism) (w : World) (side : Side) (post : Post) (content : Content)
    (made : Step World) : Type 0 where
  pub answer : made.answer ≡ Opened post.position
  pub history : history_of made.next.conversation (view_of made.next side)
      ≡ history_of w.conversation (view_of w side)
      ++ entry_with post.position content.kind content.bytes ∷ []
  pub once : times_opened_by made.next side post.position ≡ 1
  pub session : take_on k (kept_in k w side) post.packet
      ≡ Ok (record { position = post.position; next = kept_in k made.next side })

-- A side said a content, which led its world on to the next: the packet comes last in its outbox,
-- and the other side stands where it stood, so it hasn't opened it. Whatever happens from then on,
-- the packet is no forged one, and the other side opens it to this content when it takes it for the
-- first time, within the limits.
pub record IsSaidTo (k : Mechanism) (w next : World) (side : Side) (content : Content) (post : Post)
    : Type 0 where
  pub outbox : outbox_in k next side ≡ outbox_in k w side ++ post ∷ []
  pub stays : view_of next (peer_of side) ≡ view_of w (peer_of side)
  pub unopened : has_opened (view_of next (peer_of side)) post.position ≡ false
  pub real : (events : List Event) → All IsSeedWhole events
      → IsUnforged k (run_of k next events) (peer_of side) post.packet
  pub opens : (events : List Event) → All IsSeedWhole events
      → let later = run_of k next events in IsAwaited later (peer_of side) post
      → OpensTo k later (peer_of side) post content
      (act_in k later (peer_of side) (taking post.packet))

-- what a side says has a packet
pub record HasPacket (k : Mechanism) (w next : World) (side : Side) (content : Content)
    (p : Position) : Type 0 where
  pub post : Post
  pub position : post.position ≡ p
  pub is : IsSaidTo k w next side content post

abbrev pub SaidIsOpened : Mechanism → Type 0
SaidIsOpened k =
    (w : World) (side : Side) (content : Content) (draw : Option (List ℕ)) (p : Position)
    → IsLawfulWorld k w → IsFairAct k w side (saying content draw)
    → (act_in k w side (saying content draw)).answer ≡ Said p
    → HasPacket k w (act_in k w side (saying content draw)).next side content p
