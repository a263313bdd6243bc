use Rattle.scripts.proofs.PrintedDeeds.{line_back}
use Rattle.scripts.proofs.laws.lines_print_back.Goals as goal

pub returns : goal.returns
returns c = line_back
