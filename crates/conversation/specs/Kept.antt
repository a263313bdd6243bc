-- What a side's disk stands for later.
use Rattle.std.specs.Prelude.{Contains, List, Some, count_by, slice_get, true, ℕ, ◌<◌, ◌≡◌}
use Rattle.boxes.specs.Entries.{Entry, entry_with}
use Rattle.dr_base.specs.Position.{is_at, peer_of}
use Rattle.dr_base.specs.declared.position.Position.{Position}
use Rattle.dr_base.specs.declared.position.Side.{Side}
use Rattle.dr_disk.specs.State.{DiskState}
use Rattle.dr_model.specs.Conversations.Conversation.{is_said}
use Rattle.dr_model.specs.Conversations.Posts.{post_at}
use Rattle.dr_model.specs.Conversations.Views.{entry_at, has_opened, history_of, times_opened}
use Rattle.dr_model.specs.Machines.Worlds.{World, view_of}
use Rattle.dr_model.specs.Theorems.LawfulWorlds.{IsLawfulWorld}
use Rattle.dr_ports.specs.States.{DrawsState}
use Rattle.kem_laws.specs.Mechanism.{Mechanism}
use Rattle.session_model.specs.Contents.{Content}
use Rattle.session_model.specs.declared.answer.Answer.TheVariants.{Opened, Said}
use Rattle.client.specs.InWorlds.{StandsFor}
use Rattle.client.specs.Moments.{IsAmongKnown, IsLater}
use Rattle.session_commands.specs.WholeRuns.{says, takes}
use Rattle.conversation.specs.Answered.{HasAnswered}
use Rattle.conversation.specs.Joints.{Joint, known_in}

-- a later world keeps what a side has opened, what was said with its kind, and its packets
pub record Keeps (k : Mechanism) (side : Side) (w v : World) : Type 0 where
  pub lawful : IsLawfulWorld k v
  pub later : IsLater k w v
  pub opened : (p : Position) → has_opened (view_of w side) p ≡ true
      → (has_opened (view_of v side) p ≡ true) × (times_opened (view_of v side) p ≡ 1)
  pub said : (p : Position) → is_said w.conversation p ≡ true
      → (is_said v.conversation p ≡ true)
      × (entry_at v.conversation p ≡ entry_at w.conversation p)
      × (post_at k v.conversation p ≡ post_at k w.conversation p)

-- bytes of a side's disk stand for a world in which all stands that stood before
pub record StandsLater (k : Mechanism) (side : Side) (before after : Joint) (bytes : List ℕ)
    : Type 0 where
  pub world : World
  pub known : IsAmongKnown (known_in k side after) world
  pub stands : StandsFor k world side bytes
  pub keeps : Keeps k side before.world world

-- bytes of a side's disk stand for a world in whose history of the side a text, or a part of a long
-- one, stands once, under its position
pub record StandsOnce (k : Mechanism) (side : Side) (after : Joint) (p : Position)
    (content : Content) (bytes : List ℕ) : Type 0 where
  pub world : World
  pub known : IsAmongKnown (known_in k side after) world
  pub stands : StandsFor k world side bytes
  pub there : Contains (history_of world.conversation (view_of world side))
      (entry_with p content.kind content.bytes)
  pub once : count_by (λ (e : Entry). is_at p e.position)
      (history_of world.conversation (view_of world side)) ≡ 1

-- What a side took, a text or a part of a long one, stands in its history once, as its peer said
-- it, in all that its disk may hold.
abbrev pub HoldsTexts : {X Y W : Type 0} → (X → DiskState) → (Y → DiskState) → (W → DrawsState)
    → Mechanism → Side → List X → List Y → (ℕ → Joint) → Type 0
HoldsTexts {X = X} {W = W} state others draws k side moments peers joints =
    (said took at : ℕ) (content : Content) (packet : List ℕ) (source left : W) (p : Position)
    (now : X)
    → said < at → took < at → slice_get moments at ≡ Some now
    → HasAnswered others draws k (peer_of side) peers joints said (says content source left) (Said p)
    → HasAnswered state draws k side moments joints took (takes packet) (Opened p)
    → (bytes : List ℕ) → (state now).image bytes → StandsOnce k side (joints at) p content bytes
