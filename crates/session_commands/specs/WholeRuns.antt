-- Runs of commands on one disk, one after the other, with crashes in them and between them, while
-- the other side goes on.
use Rattle.std.specs.Prelude.{List, Result, Some, [], slice_get, ℕ, ◌+◌, ◌≡◌, ◌⊎◌}
use Rattle.dr_base.specs.declared.position.Side.{Side}
use Rattle.dr_disk.specs.State.{Always, DiskState}
use Rattle.dr_model.specs.Machines.Acts.{dropping}
use Rattle.dr_model.specs.Machines.Worlds.{World}
use Rattle.dr_ports.specs.States.{DrawsState}
use Rattle.endings.specs.declared.ending.Ending.{Ending}
use Rattle.kem_laws.specs.Mechanism.{Mechanism}
use Rattle.relay_wire.specs.Replies.{Replied}
use Rattle.session_model.specs.Clients.{Client}
use Rattle.session_model.specs.Contents.{Content}
use Rattle.session_model.specs.declared.answer.Which.{Which}
use Rattle.sync_model.specs.declared.more.More.{More}
use Rattle.client.specs.InWorlds.{StandsFor}
use Rattle.client.specs.Moments.{HaveMoved, IsAmongKnown, Known, known_after_sync, settled_in}
use Rattle.client.specs.Syncing.InOrder.{IsLeftBetween}
use Rattle.client.specs.Syncing.InWorlds.{AreUnforged}
use Rattle.client.specs.declared.syncing.faults.SyncFault.{SyncFault}
use Rattle.command_lines.specs.Acting.{ClientAsk}
use Rattle.command_lines.specs.Asking.{asked_content, asked_drop, asked_take}
use Rattle.session_commands.specs.Disks.{RunsOn}
use Rattle.session_commands.specs.Histories.{acted_known, cut_in_sync, cut_known, shown_known, synced_known}
use Rattle.session_commands.specs.Acting.{RunsIn}
use Rattle.session_commands.specs.Showing.{ShowsIn}
use Rattle.session_commands.specs.SyncMoments.{SyncsBehind}
use Rattle.session_commands.specs.Syncing.{SyncRunsIn}

-- A command that lets the client act once: it says a text or a part of a long one, with the draws
-- before and after it, takes a packet, or drops items of a box. One that says a long text is a row
-- of these.
pub data Command (W : Type 0) : Type 0 where
  says : (content : Content) (source left : W) → Command W
  takes : (packet : List ℕ) → Command W
  drops : (which : Which) → Command W

abbrev pub asked_by : {W : Type 0} → (W → DrawsState) → Mechanism → Command W → ClientAsk
asked_by draws k (says content source left) = asked_content draws content source left
asked_by draws k (takes packet) = asked_take k packet
asked_by draws k (drops which) = asked_drop (dropping which)

-- a crash now leaves only what one might have left then
abbrev pub LeavesAlone : DiskState → DiskState → Type 0
LeavesAlone start now = (c : List ℕ) → now.image c → start.image c

-- what stands after a crash is what one might have left at a moment of the run
abbrev pub IsCutFrom : DiskState → DiskState → DiskState → Type 0
IsCutFrom start now crashed = (c : List ℕ) → crashed.image c → IsLeftBetween start now c

-- What lies between two moments of one disk, with what is known of it before and after. A command
-- reads one of the known worlds, and does there what its clauses say. Where a crash cut it off, it
-- ran on towards a moment that didn't come to stand. One that shows or syncs has shown, sent and
-- written nothing before the moment at which its session stands open (`ShowsBehind`,
-- `LeavesCourse`). So where something had gone out, the crash came behind that moment.
pub data Ran {X W : Type 0} (state : X → DiskState) (draws : W → DrawsState)
    (k : Mechanism) (side : Side) (a b : X) : Known → Known → Type 0 where
  -- a command let the client act once
  acted : (known : Known) (w : World) → IsAmongKnown known w
      → (command : Command W) (ending : Ending) (lines : List ℕ)
      → (runs : RunsIn k w side (asked_by draws k command) (state a) (state b)
      ending lines)
      → Ran state draws k side a b known (acted_known runs known)
  was_cut_acting : (known : Known) (w : World) → IsAmongKnown known w
      → (command : Command W) (now : X) (ending : Ending) (lines : List ℕ)
      → (runs : RunsIn k w side (asked_by draws k command) (state a) (state now)
      ending lines)
      → IsCutFrom (state a) (state now) (state b)
      → Ran state draws k side a b known (cut_known runs known)
  -- one showed what is kept
  showed : (known : Known) (w : World) → IsAmongKnown known w
      → (shows : Client → List ℕ) (ending : Ending) (lines : List ℕ)
      → (runs : ShowsIn k w side shows (state a) (state b) ending lines)
      → Ran state draws k side a b known (shown_known runs known)
  -- or a crash cut it off, wherever, and nothing had been shown
  was_cut_showing : (known : Known) (w : World) → IsAmongKnown known w
      → (shows : Client → List ℕ) (now : X) (ending : Ending) (lines : List ℕ)
      → ShowsIn k w side shows (state a) (state now) ending lines
      → IsCutFrom (state a) (state now) (state b)
      → Ran state draws k side a b known known
  -- or behind that moment, and some of its lines may have been shown: no call on the disk was to
  -- come, so the disk was as at the end that didn't come
  was_cut_shown : (known : Known) (w : World) → IsAmongKnown known w
      → (shows : Client → List ℕ) (opened : X) (ending : Ending) (lines : List ℕ)
      → (runs : ShowsIn k w side shows (state a) (state opened) ending lines)
      → LeavesAlone (state opened) (state b)
      → Ran state draws k side a b known (shown_known runs known)
  -- one synced, by replies that bring no forged packet
  synced : (known : Known) (w : World) → IsAmongKnown known w
      → (kept : Client) (replies : List Replied) (result : Result More SyncFault)
      → AreUnforged k [] side w replies
      → SyncRunsIn k side w kept replies (state a) (state b) result
      → Ran state draws k side a b known (synced_known k side w replies result)
  -- or a crash cut it off, wherever, and nothing had been sent or written
  was_cut_syncing : (known : Known) (w : World) → IsAmongKnown known w
      → (kept : Client) (replies : List Replied) (now : X) (result : Result More SyncFault)
      → AreUnforged k [] side w replies
      → SyncRunsIn k side w kept replies (state a) (state now) result
      → IsCutFrom (state a) (state now) (state b)
      → Ran state draws k side a b known (cut_in_sync k side w replies known)
  -- or behind that moment, and some of it may have been
  was_cut_synced : (known : Known) (w : World) → IsAmongKnown known w
      → (kept : Client) (replies : List Replied) (opened now : X) (result : Result More SyncFault)
      → AreUnforged k [] side w replies
      → SyncRunsIn k side w kept replies (state a) (state now) result
      → SyncsBehind k side w replies (state a) (state opened) (state now)
      → IsCutFrom (state opened) (state now) (state b)
      → Ran state draws k side a b known (known_after_sync k [] side w [] replies)
  -- one stayed in the world that it read
  stayed : (known : Known) (w : World) → IsAmongKnown known w → RunsOn k side w w (state a) (state b)
      → Ran state draws k side a b known known
  was_cut_staying : (known : Known) (w : World) → IsAmongKnown known w → (now : X)
      → RunsOn k side w w (state a) (state now) → IsCutFrom (state a) (state now) (state b)
      → Ran state draws k side a b known known
  -- a crash between two commands, or a command that left the disk alone
  was_left_alone : (known : Known) → LeavesAlone (state a) (state b)
      → Ran state draws k side a b known known

-- the other side went on, and the disk was left alone
pub record PeerWentOn {X : Type 0} (state : X → DiskState) (k : Mechanism) (side : Side) (a b : X)
    (known moved : Known) : Type 0 where
  pub moves : HaveMoved k side known moved
  pub alone : LeavesAlone (state a) (state b)

-- what comes between two moments of a disk
abbrev pub Passed : {X W : Type 0} → (X → DiskState) → (W → DrawsState) → Mechanism → Side → X → X
    → Known → Known → Type 0
Passed state draws k side a b before after =
    Ran state draws k side a b before after ⊎ PeerWentOn state k side a b before after

-- moments of a disk, from one on at which it stands for the first world, and what came between each
-- and the next
pub record AreRun {X W : Type 0} (state : X → DiskState) (draws : W → DrawsState)
    (moments : List X) (k : Mechanism) (side : Side) (first : World) (known : ℕ → Known) : Type 0 where
  pub begins : known 0 ≡ settled_in first
  pub stands : (a : X) → slice_get moments 0 ≡ Some a → Always (StandsFor k first side) (state a)
  pub ran : (n : ℕ) (a b : X) → slice_get moments n ≡ Some a → slice_get moments (n + 1) ≡ Some b
      → Passed state draws k side a b (known n) (known (n + 1))
