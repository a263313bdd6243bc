use Rattle.script_parts.specs.Parts.{next_number}
use Rattle.script_parts.proofs.Drawing.{number_is}
use Rattle.script_parts.proofs.numbers.next_number.Goals as goal

pub returns : goal.returns
unfolding next_number
returns c = number_is c.args.number 6364136223846793005 1442695040888963407
