-- What a side's program acknowledged.
use Rattle.std.specs.Prelude.{[], List, Some, slice_get, ℕ, ◌+◌, ◌≡◌}
use Rattle.dr_base.specs.declared.position.Side.{Side}
use Rattle.dr_disk.specs.State.{DiskState}
use Rattle.dr_model.specs.Machines.WorldActs.{act_in}
use Rattle.dr_ports.specs.States.{DrawsState}
use Rattle.kem_laws.specs.Mechanism.{Mechanism}
use Rattle.session_model.specs.declared.answer.Answer.{Answer}
use Rattle.client.specs.Moments.{Known}
use Rattle.command_lines.specs.Closing.{printed_answer}
use Rattle.command_lines.specs.InWorlds.{goes_on}
use Rattle.session_commands.specs.WholeRuns.{Command, Ran, acted}
use Rattle.conversation.specs.Joints.{Joint, cut_off, known_in}

-- a command was acknowledged with this answer
abbrev pub WasAnswered : {X W : Type 0} {state : X → DiskState} {draws : W → DrawsState}
    {k : Mechanism} {side : Side} {a b : X} {before after : Known}
    → Ran state draws k side a b before after → Command W → Answer → Type 0
WasAnswered {k = k} {side = side}
    (acted known w which command ending lines (goes_on act asks fair on rests)) asked answer =
    (command ≡ asked) × ((act_in k w side act).answer ≡ answer)
WasAnswered _ asked answer = ⊥

-- from this moment to the next a command of a side's was acknowledged with this answer
pub record HasAnswered {X W : Type 0} (state : X → DiskState) (draws : W → DrawsState)
    (k : Mechanism) (side : Side) (moments : List X) (joints : ℕ → Joint) (n : ℕ)
    (asked : Command W) (answer : Answer) : Type 0 where
  pub before : X
  pub after : X
  pub here : slice_get moments n ≡ Some before
  pub next : slice_get moments (n + 1) ≡ Some after
  pub ran : Ran state draws k side before after (known_in k side (joints n))
      (known_in k side (joints (n + 1)))
  pub answered : WasAnswered ran asked answer

-- one moment more, with a command that was acknowledged: its line is that of its answer, and
-- nothing that the side did is in doubt then
pub record IsAcknowledged {X W : Type 0} (state : X → DiskState) (draws : W → DrawsState)
    (k : Mechanism) (side : Side) (moments : List X) (joints : ℕ → Joint) (n : ℕ)
    (command : Command W) (lines : List ℕ) : Type 0 where
  pub answer : Answer
  pub printed : lines ≡ printed_answer answer
  pub has : HasAnswered state draws k side moments joints n command answer
  pub settled : cut_off (joints (n + 1)) side ≡ []
