-- The replies by which a sync goes on, and packets that are real.
use Rattle.std.specs.Prelude.{Contains, List, [], ℕ, ⊤, ◌≡◌, ◌≤◌}
use Rattle.boxes.specs.Posts.{Post}
use Rattle.dr_base.specs.declared.position.Side.{Side}
use Rattle.dr_disk.specs.State.{DiskState}
use Rattle.dr_model.specs.Machines.WorldSides.{kept_in}
use Rattle.dr_ports.specs.Wires.{Port}
use Rattle.endings.specs.declared.ending.Ending.{Ending}
use Rattle.kem_laws.specs.Mechanism.{Mechanism}
use Rattle.relay_wire.specs.Replies.{Replied, item}
use Rattle.session_commands.specs.Syncing.{RunsSync, was_synced, wasnt_linked, wasnt_synced}
use Rattle.conversation.specs.Joints.{Joint}

-- those that a sync has read: none, where it wasn't begun
abbrev pub replies_read : {X L : Type 0} {state : X → DiskState} {port : L → Port} {k : Mechanism}
    {address : List ℕ} {start now : X} {link left : L} {before after : ℕ} {ending : Ending}
    {lines : List ℕ}
    → RunsSync state port k address start now link left before after ending lines → List Replied
replies_read (wasnt_synced refusal why leaves alone in_worlds) = []
replies_read (wasnt_linked kept read leaves told flow rose in_worlds) = []
replies_read (was_synced kept replies result read lawful moved opens leaves talk gate in_worlds) =
    replies

-- a packet that stood in an outbox of either side, when that was acknowledged or shown
pub record IsReal (k : Mechanism) (joints : ℕ → Joint) (m : ℕ) (packet : List ℕ) : Type 0 where
  pub at : ℕ
  pub before : at ≤ m
  pub whose : Side
  pub post : Post
  pub stood : Contains (kept_in k (joints at).world whose).outbox post
  pub same : packet ≡ post.packet

-- the packet that a reply brings, if it brings one, is real
abbrev pub BringsReal : Mechanism → (ℕ → Joint) → ℕ → Replied → Type 0
BringsReal k joints m (item number packet) = IsReal k joints m packet
BringsReal k joints m _ = ⊤
