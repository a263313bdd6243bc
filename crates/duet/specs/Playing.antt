-- What comes of one deed of a script that is played.
use Rattle.std.specs.Prelude.{◌≡◌, ◌≤◌, Result, IfOk, OnOk, IsErrOf}
use Rattle.dr_ports.specs.Ports.{Rose, appended}
use Rattle.dr_ports.specs.States.{SinkState}
use Rattle.dr_ports.specs.Writing.{TookBeginning}
use Rattle.dr_base.specs.declared.position.Side.{Side}
use Rattle.kem_laws.specs.Mechanism.{Mechanism}
use Rattle.scripts.specs.Deeds.{Deed}
use Rattle.scripts.specs.Sides.{deed_side}
use Rattle.duet.specs.Held.{DuetNow, after_deed, beside}
use Rattle.duet.specs.Outcomes.{SidesPlayed, deed_on, freely_on}
use Rattle.duet.specs.Tally.{counted_all}
use Rattle.duet.specs.declared.deeds.Cut.{Cut}
use Rattle.duet.specs.declared.deeds.Cut.TheVariants.{Memory, Write}
use Rattle.duet.specs.declared.tally.Tally.{Tally}

-- what was done is counted, and its lines are written; else no memory was left, and nothing is written, or a write failed
-- and a beginning of them is
pub record PlaysAs (side : Side) (made : SidesPlayed) (duet : DuetNow) (tally more : Tally)
    (old new : SinkState) (result : Result DuetNow Cut) : Type 0 where
  pub next : IfOk result (λ next. next ≡ after_deed duet made)
  pub counts : OnOk result (more ≡ counted_all side made.answers tally)
  pub whole : OnOk result (new.taken ≡ appended old.taken made.lines)
  pub memory : IsErrOf result Memory → new.taken ≡ old.taken
  pub part : IsErrOf result Write → TookBeginning old.taken new.taken made.lines
  pub rose : IsErrOf result Write → Rose old.faults new.faults
  pub later : old.faults ≤ new.faults
  pub quiet : (IsErrOf result Write → ⊥) → new.faults ≡ old.faults

-- a deed, and one that isn't barred
abbrev pub PlaysDeed : Mechanism → Deed → DuetNow → Tally → Tally → SinkState → SinkState → Result DuetNow Cut → Type 0
PlaysDeed k deed duet tally more old new result =
    PlaysAs (deed_side deed) (deed_on k (beside duet) deed) duet tally more old new result

abbrev pub PlaysFreely : Mechanism → Deed → DuetNow → Tally → Tally → SinkState → SinkState → Result DuetNow Cut → Type 0
PlaysFreely k deed duet tally more old new result =
    PlaysAs (deed_side deed) (freely_on k (beside duet) deed) duet tally more old new result
