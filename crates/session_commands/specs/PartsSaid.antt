-- What comes of one part that a command says, with its line.
use Rattle.std.specs.Prelude.{Err, Ok, Result, [], ℕ, ◌≡◌, ◌⊎◌}
use Rattle.boxes.specs.Parts.{Part}
use Rattle.dr_base.specs.declared.position.Position.{Position}
use Rattle.dr_disk.specs.State.{DiskState}
use Rattle.dr_ports.specs.Ports.{Rose, appended}
use Rattle.dr_ports.specs.States.{DrawsState, SinkState}
use Rattle.dr_ports.specs.Writing.{TookBeginning}
use Rattle.endings.specs.Ends.{Ends}
use Rattle.endings.specs.declared.ending.Ending.{Ending}
use Rattle.endings.specs.declared.ending.Ending.TheVariants.{Done}
use Rattle.endings.specs.declared.status.Status.{Status}
use Rattle.kem_laws.specs.Mechanism.{Mechanism}
use Rattle.session_model.specs.declared.answer.Answer.TheVariants.{Said}
use Rattle.command_lines.specs.Closing.{printed_answer}
use Rattle.command_lines.specs.LongLines.{said_part_line}
use Rattle.session_commands.specs.LongSaying.{SaysPart}

-- it was said, and its line was written
pub record WasShown {X W : Type 0} (state : X → DiskState) (draws : W → DrawsState) (k : Mechanism)
    (part : Part) (start now : X) (source left : W) (old new : SinkState) : Type 0 where
  pub position : Position
  pub says : SaysPart state draws k part start now source left Done
      (printed_answer (Said position))
  pub wrote : new.taken ≡ appended old.taken (said_part_line position part.number part.count)
  pub quiet : new.faults ≡ old.faults

-- it wasn't said, and the command ends as its run does
pub record WasntSaid {X W : Type 0} (state : X → DiskState) (draws : W → DrawsState)
    (k : Mechanism) (part : Part) (start now : X) (source left : W) (old new : SinkState)
    (code : ℕ) : Type 0 where
  pub ending : Ending
  pub says : SaysPart state draws k part start now source left ending []
  pub ends : Ends ending [] old new code

-- it was said, and a write of its line failed
pub record WasUnwritten {X W : Type 0} (state : X → DiskState) (draws : W → DrawsState)
    (k : Mechanism) (part : Part) (start now : X) (source left : W) (old new : SinkState)
    (code : ℕ) : Type 0 where
  pub position : Position
  pub says : SaysPart state draws k part start now source left Done
      (printed_answer (Said position))
  pub wrote : TookBeginning old.taken new.taken
      (said_part_line position part.number part.count)
  pub rose : Rose old.faults new.faults
  pub code_is : code ≡ 5

-- the command goes on with the next part, or ends here with a status
abbrev pub SaysOne : {X W : Type 0} → (X → DiskState) → (W → DrawsState) → Mechanism → Part
    → X → X → W → W → SinkState → SinkState → Result Unit Status → Type 0
SaysOne state draws k part start now source left old new (Ok done) =
    WasShown state draws k part start now source left old new
SaysOne state draws k part start now source left old new (Err status) =
    WasntSaid state draws k part start now source left old new status.code
    ⊎ WasUnwritten state draws k part start now source left old new status.code
