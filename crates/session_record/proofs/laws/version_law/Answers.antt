use Rattle.session_record.proofs.RecordLaw.{saved_grammar}
use Rattle.session_record.proofs.laws.version_law.Goals as goal

pub returns : goal.returns
returns c = saved_grammar
