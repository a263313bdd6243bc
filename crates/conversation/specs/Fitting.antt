-- The answer that a command has when it was done.
use Rattle.std.specs.Prelude.{◌≡◌}
use Rattle.dr_base.specs.declared.position.Position.{Position}
use Rattle.session_model.specs.declared.answer.Answer.{Answer}
use Rattle.session_model.specs.declared.answer.Answer.TheVariants.{Dropped, Opened, Said}
use Rattle.session_commands.specs.WholeRuns.{Command, drops, says, takes}

-- a text was said, a packet opened, or just these items left their box
abbrev pub IsAnswerTo : {W : Type 0} → Command W → Answer → Type 0
IsAnswerTo (says content source left) answer = (p : Position) × (answer ≡ Said p)
IsAnswerTo (takes packet) answer = (p : Position) × (answer ≡ Opened p)
IsAnswerTo (drops which) answer = answer ≡ Dropped which
