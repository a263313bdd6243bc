use Rattle.relay_server.proofs.LowerHalves.{reads_lower}
use Rattle.relay_server.proofs.laws.lower_halves.Goals as goal

pub returns : goal.returns
returns c = reads_lower c.widening.ensures
