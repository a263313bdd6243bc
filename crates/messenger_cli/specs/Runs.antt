-- What the command `duet` comes to.
use Rattle.std.specs.Prelude.{◌≡◌, ◌⊎◌, ℕ, ◌<◌, ◌≤◌, List, [], ◌++◌, length, Option, Ok, Err, IfSome, IsSome, IsNone}
use Rattle.dr_ports.specs.Ports.{Rose, appended}
use Rattle.dr_ports.specs.States.{SinkState, SourceState}
use Rattle.dr_ports.specs.Writing.{TookBeginning}
use Rattle.session_model.specs.declared.answer.Refusal.TheVariants.{NoPair}
use Rattle.scripts.specs.Script.{Scripted, script_of}
use Rattle.duet.specs.Trace.{IsUnforgedScript, trace_of}
use Rattle.endings.specs.declared.ending.Ending.{Ending}
use Rattle.endings.specs.declared.ending.Ending.TheVariants.{Done, InputTooLong, BadLine, Refused, ReadFault, NoMemory}
use Rattle.messenger_cli.specs.declared.playing.TheConstants.{SCRIPT_LIMIT}
use Rattle.endings.specs.Ends.{Ends}
use Rattle.messenger_cli.specs.Mechanisms.{first_pair, mechanism_of, played_named}
use Rattle.messenger_cli.specs.Reads.{LeavesSource, CountsReads}

-- the source's text is a script, and these lines are what both sides answer to it over the mechanism that it names:
-- where no packet that the script makes up has a forged tag, the machine's trace
pub record IsTraceOf (text lines : List ℕ) : Type 0 where
  pub script : Scripted
  pub fits : length text ≤ SCRIPT_LIMIT
  pub read : script_of text ≡ Ok script
  pub pairs : IsSome (first_pair script)
  pub lines_are : lines ≡ played_named script
  pub trace_is : IsUnforgedScript (mechanism_of script.kem) script → lines ≡ trace_of (mechanism_of script.kem) script

-- the source's text is a script of whose trace these lines are a beginning
pub record BeginsTrace (text lines : List ℕ) : Type 0 where
  pub rest : List ℕ
  pub trace : IsTraceOf text (lines ++ rest)

-- the source's text is a script whose key gives no first pair
pub record HasNoPair (text : List ℕ) : Type 0 where
  pub script : Scripted
  pub fits : length text ≤ SCRIPT_LIMIT
  pub read : script_of text ≡ Ok script
  pub none : IsNone (first_pair script)

-- the text's first bad line
pub record HasBadLine (text : List ℕ) (number : ℕ) : Type 0 where
  pub fits : length text ≤ SCRIPT_LIMIT
  pub read : script_of text ≡ Err number

-- Why the command ended so, after these lines, where the source tells what it holds: its work is the trace of the
-- script, and memory may want after a beginning of it; every other ending comes before the first line and has its cause.
abbrev pub HasReason : Option (List ℕ) → Ending → List ℕ → Type 0
HasReason left Done lines = IfSome left (λ text. IsTraceOf text lines)
HasReason left (InputTooLong limit) lines = (lines ≡ []) × (limit ≡ SCRIPT_LIMIT) × IfSome left (λ text. SCRIPT_LIMIT < length text)
HasReason left (BadLine number) lines = (lines ≡ []) × IfSome left (λ text. HasBadLine text number)
HasReason left (Refused refusal) lines = (lines ≡ []) × (refusal ≡ NoPair) × IfSome left HasNoPair
HasReason left ReadFault lines = lines ≡ []
HasReason left NoMemory lines = (lines ≡ []) ⊎ IfSome left (λ text. BeginsTrace text lines)
HasReason left _ lines = ⊥

-- The run of `duet`: an ending with its reason, the lines before it, what was read of the source, and what was written
-- of the lines. The source stood as `from` says and stands as `to` does.
pub record RunsDuet (from to : SourceState) (old new : SinkState) (code : ℕ) : Type 0 where
  pub ending : Ending
  pub lines : List ℕ
  pub reason : HasReason from.left ending lines
  pub leaves : LeavesSource ending from.left to.left
  pub reads : CountsReads ending from.faults to.faults
  pub ends : Ends ending lines old new code

-- What the work of `duet` did before the last line: it wrote the lines and gives the ending, or a write failed.
pub record Works (from to : SourceState) (old new : SinkState) (ending : Ending) : Type 0 where
  pub lines : List ℕ
  pub reason : HasReason from.left ending lines
  pub leaves : LeavesSource ending from.left to.left
  pub reads : CountsReads ending from.faults to.faults
  pub wrote : new.taken ≡ appended old.taken lines
  pub quiet : new.faults ≡ old.faults

pub record IsReadCut (from to : SourceState) (old new : SinkState) : Type 0 where
  pub lines : List ℕ
  pub reason : HasReason from.left Done lines
  pub leaves : LeavesSource Done from.left to.left
  pub reads : CountsReads Done from.faults to.faults
  pub wrote : TookBeginning old.taken new.taken lines
  pub rose : Rose old.faults new.faults
