-- The smallest conversation in which a text goes over, as the clauses of the commands tell it.
use Rattle.std.specs.Prelude.{List, Some, [], ℕ, ◌∷◌, ◌≡◌}
use Rattle.bodies.specs.declared.format.Format.{Format}
use Rattle.boxes.specs.Posts.{Post}
use Rattle.dr_base.specs.declared.key.Key32.{Key32}
use Rattle.dr_base.specs.declared.position.Side.TheVariants.{First, Second}
use Rattle.dr_disk.specs.State.{DiskState}
use Rattle.dr_model.specs.Machines.Worlds.{World}
use Rattle.dr_model.specs.Theorems.LawfulWorlds.{IsLawfulWorld}
use Rattle.dr_ports.specs.States.{DrawsState}
use Rattle.endings.specs.declared.ending.Ending.{Ending}
use Rattle.endings.specs.declared.ending.Ending.TheVariants.{Done}
use Rattle.kem_laws.specs.Mechanism.{Mechanism}
use Rattle.session_model.specs.Contents.{text_content}
use Rattle.client.specs.Beginning.{begin_of}
use Rattle.command_lines.specs.Asking.{asked_say, asked_take}
use Rattle.session_commands.specs.Beginning.{Began}
use Rattle.session_commands.specs.Acting.{RunsAct}
use Rattle.session_commands.specs.Talks.{IsPostedOn}
use Rattle.session_commands.specs.WholeRuns.{IsCutFrom, LeavesAlone, says, takes}
use Rattle.conversation.specs.Answered.{IsAcknowledged}
use Rattle.conversation.specs.Joints.{IsConversation, Joint}

-- Both sides begin with one key. First says a text. Second takes its packet; a crash cuts that off,
-- wherever, and Second takes it again.
pub record IsWholeTalk {D E W : Type 0} (state : D → DiskState) (others : E → DiskState)
    (draws : W → DrawsState) (k : Mechanism) (a b : D) (c d e f : E) (text : List ℕ)
    (source left : W) (post : Post) (said taken : List ℕ) : Type 0 where
  pub key : Key32
  pub other : Key32
  pub same : other.bytes ≡ key.bytes
  pub one : Format
  pub two : Format
  pub start : D
  pub starts : E
  pub begun : E
  pub shown : List ℕ
  pub shows : List ℕ
  pub first : Began state k (begin_of First one key) start a Done shown
  pub second : Began others k (begin_of Second two other) starts begun Done shows
  pub rests : LeavesAlone (others begun) (others c)
  pub first_bytes : List ℕ
  pub first_told : (state a).seen ≡ Some first_bytes
  pub says_it : RunsAct state k (asked_say draws text source left) a b Done said
  pub posted : IsPostedOn k (state b) post
  pub second_bytes : List ℕ
  pub second_told : (others c).seen ≡ Some second_bytes
  pub ending : Ending
  pub lines : List ℕ
  pub takes_it : RunsAct others k (asked_take k post.packet) c d ending lines
  pub crashes : IsCutFrom (others c) (others d) (others e)
  pub last_bytes : List ℕ
  pub last_told : (others e).seen ≡ Some last_bytes
  pub takes_again : RunsAct others k (asked_take k post.packet) e f Done taken

-- these are runs of both, and what was acknowledged is so
pub record HasWholeTalked {D E W : Type 0} (state : D → DiskState) (others : E → DiskState)
    (draws : W → DrawsState) (k : Mechanism) (a b : D) (c e f : E) (text : List ℕ)
    (source left : W) (packet : List ℕ) (said taken : List ℕ) : Type 0 where
  pub world : World
  pub joints : ℕ → Joint
  pub lawful : IsLawfulWorld k world
  pub are : IsConversation state others draws (a ∷ b ∷ b ∷ b ∷ []) (c ∷ c ∷ e ∷ f ∷ []) k world
      joints
  pub was_said : IsAcknowledged state draws k First (a ∷ b ∷ b ∷ b ∷ []) joints 0
      (says (text_content text) source left) said
  pub was_taken : IsAcknowledged others draws k Second (c ∷ c ∷ e ∷ f ∷ []) joints 2
      (takes packet) taken
