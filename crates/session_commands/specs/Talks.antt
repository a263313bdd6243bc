-- The smallest run of commands in which both sides talk, as the clauses of their commands tell it.
use Rattle.std.specs.Prelude.{Contains, List, Some, [], ℕ, ◌∷◌, ◌≡◌}
use Rattle.boxes.specs.Posts.{Post}
use Rattle.dr_base.specs.declared.position.Side.TheVariants.{First}
use Rattle.dr_disk.specs.State.{DiskState}
use Rattle.dr_model.specs.Machines.Worlds.{World}
use Rattle.dr_model.specs.Theorems.Fairness.{IsUnforged}
use Rattle.dr_ports.specs.States.{DrawsState}
use Rattle.endings.specs.declared.ending.Ending.{Ending}
use Rattle.endings.specs.declared.ending.Ending.TheVariants.{Done}
use Rattle.kem_laws.specs.Mechanism.{Mechanism}
use Rattle.session_model.specs.Clients.{Client}
use Rattle.client.specs.Moments.{Known, settled_in}
use Rattle.command_lines.specs.Asking.{asked_say, asked_take}
use Rattle.session_commands.specs.Disks.{ReadsAsKept}
use Rattle.session_commands.specs.Acting.{RunsAct}
use Rattle.session_commands.specs.WholeRuns.{AreRun, IsCutFrom}

-- what a read gives has this packet in its outbox
pub record IsPostedOn (k : Mechanism) (disk : DiskState) (post : Post) : Type 0 where
  pub kept : Client
  pub held : ReadsAsKept k disk kept
  pub bytes : List ℕ
  pub told : disk.seen ≡ Some bytes
  pub stands : Contains kept.outbox post

-- a text was said, and its packet stands in the outbox
pub record HasSaid {X W : Type 0} (state : X → DiskState) (draws : W → DrawsState)
    (k : Mechanism) (start now : X) (post : Post) : Type 0 where
  pub text : List ℕ
  pub source : W
  pub left : W
  pub lines : List ℕ
  pub says : RunsAct state k (asked_say draws text source left) start now Done lines
  pub posted : IsPostedOn k (state now) post

-- First says a text. Second, whose disk is its own, takes the packet and says one. First takes
-- that; a crash cuts it off and leaves a disk that can be read, and First takes it again. Either of
-- these takes may end in any way.
pub record IsTalk {D E W : Type 0} (state : D → DiskState) (peers : E → DiskState)
    (draws : W → DrawsState) (k : Mechanism) (start said cut crashed took : D)
    (hears heard answers : E) (question answer : Post) : Type 0 where
  pub asks : HasSaid state draws k start said question
  pub lines : List ℕ
  pub hearing : RunsAct peers k (asked_take k question.packet) hears heard Done lines
  pub answering : HasSaid peers draws k heard answers answer
  pub ending : Ending
  pub shown : List ℕ
  pub takes : RunsAct state k (asked_take k answer.packet) said cut ending shown
  pub crashes : IsCutFrom (state said) (state cut) (state crashed)
  pub bytes : List ℕ
  pub told : (state crashed).seen ≡ Some bytes
  pub last : Ending
  pub last_shown : List ℕ
  pub takes_again : RunsAct state k (asked_take k answer.packet) crashed took last last_shown

-- First's moments are a run. Where it takes the packet first, one world is known, and nobody forged
-- the packet there.
pub record HaveTalked {D W : Type 0} (state : D → DiskState) (draws : W → DrawsState) (k : Mechanism) (w : World) (start said crashed took : D) (answer : Post)
    : Type 0 where
  pub known : ℕ → Known
  pub run : AreRun state draws (start ∷ said ∷ said ∷ said ∷ crashed ∷ took ∷ [])
      k First w known
  pub met : World
  pub there : known 3 ≡ settled_in met
  pub unforged : IsUnforged k met First answer.packet
