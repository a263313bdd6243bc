use Rattle.long_text.proofs.Arrived.{arrived_is_told}
use Rattle.long_text.proofs.laws.arrived_is_told.Goals as goal

pub returns : goal.returns
returns c = arrived_is_told
