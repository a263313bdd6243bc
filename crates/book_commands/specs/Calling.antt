-- What a call under a name came to.
use Rattle.std.specs.Prelude.{Err, Ok, Result}
use Rattle.endings.specs.declared.ending.Ending.{Ending}
use Rattle.endings.specs.declared.ending.Ending.TheVariants.{DiskFault, NoName}
use Rattle.session_model.specs.declared.answer.Answer.{Answer}
use Rattle.client.specs.Outcomes.{Outcome}
use Rattle.book.specs.declared.refusals.BookRefusal.{BookRefusal}
use Rattle.book.specs.declared.refusals.BookRefusal.TheVariants.{Closed, NoName as Nobody, Of}
use Rattle.command_lines.specs.Closing.{worked_as}

-- its answer, by how the row's session ended, or how the command ends without one
abbrev pub worked_under : {T R : Type 0} → (Result T R → Outcome) → Result T (BookRefusal R)
    → Result Answer Ending
worked_under ends (Ok v) = worked_as (ends (Ok v))
worked_under ends (Err (Of e)) = worked_as (ends (Err e))
worked_under ends (Err Nobody) = Err NoName
worked_under ends (Err (Closed call)) = Err DiskFault
