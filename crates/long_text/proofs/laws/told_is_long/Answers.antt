use Rattle.long_text.proofs.Told.{told_is_long}
use Rattle.long_text.proofs.laws.told_is_long.Goals as goal

pub returns : goal.returns
returns c = told_is_long
