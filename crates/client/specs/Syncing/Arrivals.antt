-- What a sync opens, in a world that the client stands for.
use Rattle.std.specs.List.{list_any}
use Rattle.std.specs.Prelude.{List, [], false, if◌then◌else◌, map, true, ℕ, ⊤, ◌++◌, ◌∷◌, ◌≡◌, ◌⊎◌}
use Rattle.dr_base.specs.Position.{is_at, is_own}
use Rattle.dr_base.specs.declared.position.Position.{Position}
use Rattle.dr_base.specs.declared.position.Side.{Side}
use Rattle.dr_model.specs.Conversations.Conversation.{is_said}
use Rattle.dr_model.specs.Conversations.Posts.{post_at}
use Rattle.dr_model.specs.Conversations.Views.{has_opened}
use Rattle.dr_model.specs.Machines.Events.{does, of_position, takes}
use Rattle.dr_model.specs.Machines.Worlds.{World, step_of, view_of}
use Rattle.dr_model.specs.Theorems.Headline.{IsWithinLimits}
use Rattle.kem_laws.specs.Mechanism.{Mechanism}
use Rattle.relay_core.specs.Boxes.{Box, Kept}
use Rattle.relay_wire.specs.Replies.{Replied}
use Rattle.session_model.specs.Clients.{Client}
use Rattle.sync_model.specs.Carried.{IsCarried}
use Rattle.sync_model.specs.Courses.{course_of}
use Rattle.client.specs.Syncing.InWorlds.{IsKeptIn}
use Rattle.client.specs.Syncing.Parties.{client_party}
use Rattle.client.specs.Syncing.Transfers.{Collected, HasBoxes, IsPast}

-- the peer said a text at this position; its packet is within the limits, or was opened before
pub record IsExpected (w : World) (side : Side) (p : Position) : Type 0 where
  pub said : is_said w.conversation p ≡ true
  pub peers : is_own side p.epoch ≡ false
  pub near : (has_opened (view_of w side) p ≡ true) ⊎ IsWithinLimits w side p

-- each of these at its turn
abbrev pub AreExpected : Mechanism → World → Side → List Position → Type 0
AreExpected k w side [] = ⊤
AreExpected k w side (p ∷ ps) =
    IsExpected w side p
    × AreExpected k (step_of k w (does side (takes (of_position p)))).next side ps

-- the packets of these positions stand in a box, in order
abbrev pub HoldsPackets : Mechanism → World → Box → List Position → Type 0
HoldsPackets k w box ps = map (λ (kept : Kept). kept.packet) box.packets ≡ map (λ (p : Position). (post_at k w.conversation p).packet) ps

-- after the positions that were opened, those of these that weren't yet: in order, each once
abbrev pub opened_too : List Position → List Position → List Position
opened_too arrived [] = arrived
opened_too arrived (p ∷ ps) = opened_too (if list_any (is_at p) arrived then arrived else arrived ++ p ∷ []) ps

-- what is kept is a side of a lawful world of the same conversation, which has opened these too
pub record HasOpened (k : Mechanism) (w : World) (side : Side) (ps : List Position) (kept : Client) : Type 0 where
  pub later : World
  pub is_kept : IsKeptIn k side kept later
  pub conversation : later.conversation ≡ w.conversation
  pub arrived : (view_of later side).arrived ≡ opened_too (view_of w side).arrived ps

-- In each world that the client stands for: where the replies are those of a relay, the course has come to its end and the own box
-- holds packets that are expected at their turns, the box is collected and they are opened.
abbrev pub OpensArrived : Mechanism → List ℕ → Client → List Replied → Type 0
OpensArrived k prefix first replies = (w : World) (side : Side) → IsKeptIn k side first w → (boxes : List Box) (own peers : Box)
    → HasBoxes (client_party k prefix first) boxes own peers → IsCarried (client_party k prefix first) first boxes replies
    → IsPast (client_party k prefix first) first replies → (ps : List Position) → HoldsPackets k w own ps → AreExpected k w side ps
    → Collected (client_party k prefix first) first replies boxes own
    × HasOpened k w side ps (course_of (client_party k prefix first) first replies).state
