-- The laws on which a client's claims rest.
use Rattle.std.specs.Prelude.{Ok, ◌≡◌}
use Rattle.dr_model.specs.Theorems.Acting.{ActsFollow}
use Rattle.dr_model.specs.Theorems.Erasure.{IsErased}
use Rattle.kem_laws.specs.Mechanism.{IsLawfulMechanism, Mechanism}
use Rattle.session_model.specs.Clients.{Client}
use Rattle.session_record.specs.Lawful.{IsLawfulClient}
use Rattle.session_record.specs.Record.{record_read, record_text}
use Rattle.slot_store.specs.Laws.{IsResting}

-- a lawful client's record is read as that client
abbrev pub ReadsWritten : Mechanism → Type 0
ReadsWritten k = (c : Client) → IsLawfulClient k c → record_read k (record_text c) ≡ Ok c

pub record Grounds (k : Mechanism) : Type 0 where
  -- the mechanism's
  pub mechanism : IsLawfulMechanism k
  -- what one side does follows the machine, and what it keeps doesn't give a key that was used
  pub follow : ActsFollow k
  pub erased : IsErased k
  -- what is written is read as it
  pub records : ReadsWritten k
  -- an area at rest is a function of its record and its mark
  pub resting : IsResting
