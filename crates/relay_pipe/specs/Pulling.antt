-- Frames out of a pipe.
use Rattle.std.specs.Prelude.{◌≡◌, ◌≤◌, ℕ, List, ◌++◌, Bool, true, false, Result, Ok, Err}
use Rattle.dr_base.specs.declared.failed.Failed.{Failed}
use Rattle.dr_ports.specs.Ports.{Rose}
use Rattle.relay_wire.specs.Frames.{Held, IsFrame, IsPartial}
use Rattle.dr_ports.specs.declared.pipe.Part.TheVariants.{Flow}
use Rattle.dr_ports.specs.Wires.{Port, Gave, Took, EndsAt}

-- The pipe gave these bytes, and they stand behind what was held.
pub record Pulled (old new : Held) (start now : Port) : Type 0 where
  pub got : List ℕ
  pub gave : Gave got start now
  pub sum : new.bytes ≡ old.bytes ++ got
  pub place : new.place ≡ old.place
  pub later : start.faults Flow ≤ now.faults Flow

-- a frame stands whole, or the pipe ended or failed before
abbrev pub Pulls : Held → Held → Port → Port → Result Bool Failed → Type 0
Pulls old new start now (Ok true) = Pulled old new start now × IsFrame new.bytes
Pulls old new start now (Ok false) = Pulled old new start now × IsPartial new.bytes × EndsAt now
Pulls old new start now (Err e) =
    Pulled old new start now × IsPartial new.bytes × Rose (start.faults Flow) (now.faults Flow)

-- it took a beginning of the bytes and no more
pub record TookBeginning (bytes : List ℕ) (start now : Port) : Type 0 where
  pub beginning : List ℕ
  pub remainder : List ℕ
  pub split : bytes ≡ beginning ++ remainder
  pub took : Took beginning start now
