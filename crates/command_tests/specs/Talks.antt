-- A conversation on two disks in memory, as far as each piece of it came.
use Rattle.std.specs.Prelude.{Bool, List, Some, true, ℕ, ◌≡◌}
use Rattle.bodies.specs.declared.format.Format.TheVariants.{Plain}
use Rattle.boxes.specs.Posts.{Post}
use Rattle.dr_base.specs.declared.key.Key32.{Key32}
use Rattle.dr_base.specs.declared.position.Side.{Side}
use Rattle.dr_base.specs.declared.position.Side.TheVariants.{First, Second}
use Rattle.dr_disk.specs.MemoryDisks.{state_of}
use Rattle.dr_disk.specs.declared.memory.MemoryDisk.{MemoryDisk}
use Rattle.dr_ports.specs.Memory.{Turning, turning_at}
use Rattle.endings.specs.declared.ending.Ending.{Ending}
use Rattle.endings.specs.declared.ending.Ending.TheVariants.{Done}
use Rattle.kem_laws.specs.Mechanism.{Mechanism}
use Rattle.client.specs.Beginning.{begin_of}
use Rattle.command_lines.specs.Asking.{asked_say, asked_take}
use Rattle.command_lines.specs.Inputs.{key_in_hex, packet_in_hex}
use Rattle.session_commands.specs.Acting.{RunsAct}
use Rattle.session_commands.specs.Beginning.{Began}
use Rattle.session_commands.specs.Talks.{IsPostedOn}
use Rattle.session_commands.specs.WholeRuns.{LeavesAlone}
use Rattle.conversation.specs.Talk.{HasWholeTalked}

-- a side's session was begun with the key of these digits
pub record HasBegun (k : Mechanism) (side : Side) (key : List ℕ) (now : MemoryDisk) : Type 0 where
  pub key32 : Key32
  pub key_is : key_in_hex key ≡ Some key32.bytes
  pub start : MemoryDisk
  pub lines : List ℕ
  pub began : Began state_of k (begin_of side Plain key32) start now Done lines

-- both sides' were
pub record HaveBegun (k : Mechanism) (key : List ℕ) (first second : MemoryDisk) : Type 0 where
  pub one : HasBegun k First key first
  pub two : HasBegun k Second key second

-- a text was said
pub record HasSaidText (k : Mechanism) (text : List ℕ) (start now : MemoryDisk) : Type 0 where
  pub source : Turning
  pub left : Turning
  pub lines : List ℕ
  pub says : RunsAct state_of k (asked_say turning_at text source left) start now Done lines

-- the digits are those of a packet that stands in the outbox
pub record HoldsPacket (k : Mechanism) (digits : List ℕ) (disk : MemoryDisk) : Type 0 where
  pub post : Post
  pub hex : packet_in_hex digits ≡ Some post.packet
  pub posted : IsPostedOn k (state_of disk) post

-- a text was said, and the digits are those of a packet that stood in the outbox then
pub record HasPosted (k : Mechanism) (text digits : List ℕ) (start : MemoryDisk) : Type 0 where
  pub now : MemoryDisk
  pub said : HasSaidText k text start now
  pub holds : HoldsPacket k digits now

-- the packet of the digits was taken, in any way; or it was done
pub record HasTaken (k : Mechanism) (digits : List ℕ) (start now : MemoryDisk) (done : Bool)
    : Type 0 where
  pub packet : List ℕ
  pub hex : packet_in_hex digits ≡ Some packet
  pub ending : Ending
  pub lines : List ℕ
  pub takes : RunsAct state_of k (asked_take k packet) start now ending lines
  pub is_done : done ≡ true → ending ≡ Done

-- It was taken on this disk, a crash cut that off, and it was taken again.
pub record HasTakenTwice (k : Mechanism) (digits : List ℕ) (begun : MemoryDisk) (done : Bool)
    : Type 0 where
  pub stopped : MemoryDisk
  pub rests : LeavesAlone (state_of begun) (state_of stopped)
  pub cut : MemoryDisk
  pub was_done : Bool
  pub takes : HasTaken k digits stopped cut was_done
  pub crashed : MemoryDisk
  pub crashes : LeavesAlone (state_of cut) (state_of crashed)
  pub took : MemoryDisk
  pub takes_again : HasTaken k digits crashed took done

-- a whole conversation, in which a text goes over
pub record HasTalked (k : Mechanism) (text : List ℕ) : Type 0 where
  pub a : MemoryDisk
  pub b : MemoryDisk
  pub c : MemoryDisk
  pub e : MemoryDisk
  pub f : MemoryDisk
  pub source : Turning
  pub left : Turning
  pub packet : List ℕ
  pub said : List ℕ
  pub taken : List ℕ
  pub talked : HasWholeTalked state_of state_of turning_at k a b c e f text source left packet said taken
