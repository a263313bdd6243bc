-- That a command does its work, where nothing fails and the machine refuses nothing.
use Rattle.std.specs.Prelude.{List, Some, ℕ, ◌≡◌, ◌⊎◌}
use Rattle.dr_base.specs.Causes.{Rose}
use Rattle.dr_base.specs.declared.position.Side.{Side}
use Rattle.dr_disk.specs.State.{DiskState}
use Rattle.dr_disk.specs.declared.call.Call.{Call}
use Rattle.dr_model.specs.Machines.Acts.{Act}
use Rattle.dr_model.specs.Machines.WorldActs.{act_in}
use Rattle.dr_model.specs.Machines.WorldSides.{kept_in}
use Rattle.dr_model.specs.Machines.Worlds.{World}
use Rattle.dr_model.specs.Theorems.Acting.{IsFairAct}
use Rattle.dr_model.specs.Theorems.LawfulWorlds.{IsLawfulWorld}
use Rattle.endings.specs.declared.ending.Ending.{Ending}
use Rattle.endings.specs.declared.ending.Ending.TheVariants.{Done, NoMemory}
use Rattle.kem_laws.specs.Mechanism.{Mechanism}
use Rattle.session_model.specs.Clients.{Client}
use Rattle.session_model.specs.declared.answer.Answer.TheVariants.{Refused}
use Rattle.session_model.specs.declared.answer.Refusal.{Refusal}
use Rattle.client.specs.Beginning.{HasPair, HoldsRecord}
use Rattle.client.specs.Opening.{IsReadAs, ReadsAsSide}
use Rattle.client.specs.declared.begin.Begin.{Begin}
use Rattle.slot_store.specs.Reading.{no_content}
use Rattle.command_lines.specs.Acting.{ClientAsk}

abbrev pub DidWork : Ending → Type 0
DidWork ending = (ending ≡ Done) ⊎ (ending ≡ NoMemory)

-- no call on the disk failed between two moments
abbrev pub NoneFailed : DiskState → DiskState → Type 0
NoneFailed start now = (call : Call) → Rose (start.faults call) (now.faults call) → ⊥

-- the disk reads a side of a lawful world, and nothing of the record's area is damaged
pub record ReadsWhole (k : Mechanism) (w : World) (side : Side) (disk : DiskState) : Type 0 where
  pub lawful : IsLawfulWorld k w
  pub reads : ReadsAsSide k w side disk
  pub undamaged : HoldsRecord k disk

-- the disk's bytes are told, and hold no record and no damage; and the key has a pair
pub record MayBegin (k : Mechanism) (begin : Begin) (disk : DiskState) : Type 0 where
  pub bytes : List ℕ
  pub told : disk.seen ≡ Some bytes
  pub empty : IsReadAs k disk no_content
  pub pair : HasPair k begin

-- the machine refuses no act that the command may be, and no draw failed
pub record IsAccepted (k : Mechanism) (w : World) (side : Side) (asked : ClientAsk) : Type 0 where
  pub fair : asked.fair w side
  pub accepts : (act : Act) → asked.acts (kept_in k w side) act → IsFairAct k w side act → (refusal : Refusal)
      → (act_in k w side act).answer ≡ Refused refusal → ⊥
  pub drawn : (kept : Client) → asked.undrawn kept → ⊥
