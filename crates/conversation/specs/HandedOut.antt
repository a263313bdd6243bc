-- Packets that a side's run has handed out: shown, or posted to a relay.
use Rattle.std.specs.Prelude.{Contains, List, Some, [], slice_get, true, ℕ, ◌+◌, ◌⊎◌, ◌≡◌}
use Rattle.dr_base.specs.declared.position.Position.{Position}
use Rattle.dr_base.specs.declared.position.Side.{Side}
use Rattle.dr_base.specs.declared.position.Side.TheVariants.{First, Second}
use Rattle.dr_disk.specs.State.{DiskState}
use Rattle.dr_model.specs.Conversations.Conversation.{is_said}
use Rattle.dr_model.specs.Conversations.Posts.{post_at}
use Rattle.dr_model.specs.Machines.WorldSides.{kept_in}
use Rattle.dr_model.specs.Machines.Worlds.{World}
use Rattle.dr_ports.specs.States.{DrawsState}
use Rattle.endings.specs.declared.ending.Ending.{Ending}
use Rattle.kem_laws.specs.Mechanism.{Mechanism}
use Rattle.relay_wire.specs.Replies.{Replied}
use Rattle.relay_wire.specs.Requests.{Asked, posts}
use Rattle.session_model.specs.Clients.{Client}
use Rattle.sync_model.specs.Courses.{made_requests}
use Rattle.client.specs.Moments.{Known}
use Rattle.client.specs.Syncing.InWorlds.{course_in}
use Rattle.client.specs.Syncing.Parties.{waiting, world_party}
use Rattle.command_lines.specs.Showing.{shows_nothing, shows_world}
use Rattle.session_commands.specs.Showing.{ShowsIn}
use Rattle.session_commands.specs.WholeRuns.{Ran, showed, synced, was_cut_shown, was_cut_synced}
use Rattle.conversation.specs.Joints.{Joint, known_in}

-- a packet of what was shown: of the outbox that was read, where there was one
abbrev pub IsListed : {k : Mechanism} {w : World} {side : Side} {shows : Client → List ℕ}
    {start now : DiskState} {ending : Ending} {lines : List ℕ}
    → ShowsIn k w side shows start now ending lines → List ℕ → Type 0
IsListed (shows_nothing refusal on) packet = ⊥
IsListed {k = k} {w = w} {side = side} (shows_world on rests) packet =
    Contains (waiting (kept_in k w side)) packet

-- a packet that one of a sync's requests posts, in the world that was read
pub record IsRequested (k : Mechanism) (side : Side) (w : World) (replies : List Replied)
    (packet : List ℕ) : Type 0 where
  pub asked : Asked
  pub made : Contains (made_requests (world_party k [] side w) (course_in k [] side w replies)) asked
  pub posts_it : asked.ask ≡ posts packet

-- A packet that a run may have handed out by its end, or by the crash that cut it off. Before the
-- moment at which its session stood open it had handed out none.
abbrev pub HandsOut : {X W : Type 0} {state : X → DiskState} {draws : W → DrawsState}
    {k : Mechanism} {side : Side} {a b : X} {before after : Known}
    → Ran state draws k side a b before after → List ℕ → Type 0
HandsOut (showed known w which shows ending lines runs) packet = IsListed runs packet
HandsOut (was_cut_shown known w which shows opened ending lines runs alone) packet =
    IsListed runs packet
HandsOut {k = k} {side = side} (synced known w which kept replies result fair runs) packet =
    IsRequested k side w replies packet
HandsOut {k = k} {side = side}
    (was_cut_synced known w which kept replies opened now result fair runs behind leaves) packet =
    IsRequested k side w replies packet
HandsOut _ packet = ⊥

-- from this moment to the next a side's run handed it out
pub record HasHandedOut {X W : Type 0} (state : X → DiskState) (draws : W → DrawsState)
    (k : Mechanism) (side : Side) (moments : List X) (joints : ℕ → Joint) (n : ℕ)
    (packet : List ℕ) : Type 0 where
  pub before : X
  pub after : X
  pub here : slice_get moments n ≡ Some before
  pub next : slice_get moments (n + 1) ≡ Some after
  pub ran : Ran state draws k side before after (known_in k side (joints n))
      (known_in k side (joints (n + 1)))
  pub handed : HandsOut ran packet

-- First's did, or Second's
abbrev pub WasHandedOut : {D E W : Type 0} → (D → DiskState) → (E → DiskState) → (W → DrawsState)
    → Mechanism → List D → List E → (ℕ → Joint) → ℕ → List ℕ → Type 0
WasHandedOut state others draws k first second joints n packet =
    HasHandedOut state draws k First first joints n packet
    ⊎ HasHandedOut others draws k Second second joints n packet

-- the packet of a text that was said in this world: of the one at that position
pub record IsPacketOf (k : Mechanism) (w : World) (packet : List ℕ) : Type 0 where
  pub place : Position
  pub said : is_said w.conversation place ≡ true
  pub is : (post_at k w.conversation place).packet ≡ packet
