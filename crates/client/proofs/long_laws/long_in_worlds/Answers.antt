use Rattle.client.proofs.LongTexts.{long_in}
use Rattle.client.proofs.long_laws.long_in_worlds.Goals as goal

pub returns : goal.returns
returns c = long_in
