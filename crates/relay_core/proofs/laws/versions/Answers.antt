use Rattle.relay_core.proofs.BoxGrammar.{record_grammar}
use Rattle.relay_core.proofs.laws.versions.Goals as goal

pub returns : goal.returns
returns c = record_grammar
