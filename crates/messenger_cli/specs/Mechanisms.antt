-- The mechanisms that scripts name, and what they make of a script.
use Rattle.std.specs.Prelude.{List, Option, ℕ}
use Rattle.kem_laws.specs.Mechanism.{Mechanism}
use Rattle.kem_laws.specs.Open.{open_kem}
use Rattle.session_model.specs.Schedule.{agreement_seed}
use Rattle.scripts.specs.Script.{Scripted}
use Rattle.scripts.specs.declared.script.KemName.{KemName}
use Rattle.scripts.specs.declared.script.KemName.TheVariants.{Open, Sntrup761}
use Rattle.sntrup761.specs.Mechanism.{sntrup761_kem}
use Rattle.duet.specs.Trace.{played}

abbrev pub mechanism_of : KemName → Mechanism
mechanism_of Open = open_kem
mechanism_of Sntrup761 = sntrup761_kem

-- the first pair of a script's session, over the mechanism that it names
abbrev pub first_pair : Scripted → Option (List ℕ × List ℕ)
first_pair script = (mechanism_of script.kem).meaning.pair_of (agreement_seed script.key)

-- what both sides answer to it over that mechanism
abbrev pub played_named : Scripted → List ℕ
played_named script = played (mechanism_of script.kem) script
