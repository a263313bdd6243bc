-- What both sides keep after a step of the machine.
use Rattle.kem_laws.specs.Mechanism.{Mechanism}
use Rattle.dr_model.specs.Machines.Sides.{Sides}
use Rattle.dr_model.specs.Machines.Steps.{Step}
use Rattle.dr_model.specs.Machines.WorldSides.{sides_of}
use Rattle.dr_model.specs.Machines.Worlds.{World}

-- a step of the machine, with what both sides keep after it
abbrev pub seen_world : Mechanism → Step World → Step Sides
seen_world k s = record { answer = s.answer; shown = s.shown; next = sides_of k s.next }
