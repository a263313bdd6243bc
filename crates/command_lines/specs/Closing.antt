-- How a command closes: with the answer of its act, or with another ending.
use Rattle.std.specs.Prelude.{Err, List, Ok, Result, [], codes, ℕ, ◌++◌}
use Rattle.answer_lines.specs.Answers.{answer_text}
use Rattle.dr_base.specs.declared.position.Position.{Position}
use Rattle.endings.specs.declared.ending.Ending.{Ending}
use Rattle.endings.specs.declared.ending.Ending.TheVariants.{DiskFault, Done, DrawFault, Refused}
use Rattle.session_model.specs.declared.answer.Answer.{Answer}
use Rattle.session_model.specs.declared.answer.Answer.TheVariants.{Said}
use Rattle.client.specs.Outcomes.{Outcome, acknowledged, faulted, is_closed, refused, undrawn}

-- the line of an answer
abbrev pub printed_answer : Answer → List ℕ
printed_answer answer = answer_text answer ++ codes "\n"

abbrev pub ending_by : Result Answer Ending → Ending
ending_by (Ok answer) = Done
ending_by (Err ending) = ending

abbrev pub lines_of_ending : Result Answer Ending → List ℕ
lines_of_ending (Ok answer) = printed_answer answer
lines_of_ending (Err ending) = []

-- what an act came to
abbrev pub worked_as : Outcome → Result Answer Ending
worked_as (is_closed call) = Err DiskFault
worked_as (refused refusal) = Err (Refused refusal)
worked_as undrawn = Err DrawFault
worked_as (acknowledged answer) = Ok answer
worked_as (faulted call) = Err DiskFault

-- a text, or a part of a long one, was said, or the command ended otherwise
abbrev pub worked_by : Result Position Ending → Result Answer Ending
worked_by (Ok position) = Ok (Said position)
worked_by (Err ending) = Err ending

-- with the line of a session that was begun, or with another ending
abbrev pub begun_ending : Result (List ℕ) Ending → Ending
begun_ending (Ok line) = Done
begun_ending (Err ending) = ending

abbrev pub begun_lines : Result (List ℕ) Ending → List ℕ
begun_lines (Ok line) = line
begun_lines (Err ending) = []
