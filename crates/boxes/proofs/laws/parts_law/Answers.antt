use Rattle.boxes.proofs.Reading.{only, read}
use Rattle.boxes.proofs.laws.parts_law.Goals as goal

pub returns-clause-read : goal.returns-clause-read
returns-clause-read c = read

pub returns-clause-only : goal.returns-clause-only
returns-clause-only c = only
