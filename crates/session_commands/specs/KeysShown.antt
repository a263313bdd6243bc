-- What the command that shows the keys of a session's boxes comes to.
use Rattle.std.specs.Prelude.{List, None, Option, Some, ℕ}
use Rattle.dr_disk.specs.State.{DiskState}
use Rattle.endings.specs.declared.ending.Ending.{Ending}
use Rattle.endings.specs.declared.ending.Ending.TheVariants.{Done, NoRelayKeys}
use Rattle.kem_laws.specs.Mechanism.{Mechanism}
use Rattle.session_model.specs.Clients.{Client}
use Rattle.session_model.specs.declared.relay_keys.RelayKeys.{RelayKeys}
use Rattle.command_lines.specs.KeysLines.{keys_lines}
use Rattle.session_commands.specs.Showing.{RunsTell}

-- where there is no key, the command ends with that
abbrev pub ending_of_keys : Option RelayKeys → Ending
ending_of_keys None = NoRelayKeys
ending_of_keys (Some keys) = Done

abbrev pub keys_ending : Client → Ending
keys_ending kept = ending_of_keys kept.relay

-- the lines of the keys are shown, as every list
abbrev pub RunsKeys : {X : Type 0} → (X → DiskState) → Mechanism → X → X → Ending → List ℕ
    → Type 0
RunsKeys state k = RunsTell state k keys_ending keys_lines
