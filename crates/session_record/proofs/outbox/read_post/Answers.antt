use Rattle.std.proofs.Common.{arith}
use Rattle.std.proofs.lemmas.Grind.{common_steps}
use Rattle.session_record.proofs.outbox.read_post.Goals as goal

pub returns-else-not-holds-clause-fits : goal.returns-else-not-holds-clause-fits
returns-else-not-holds-clause-fits c = grind (arith, common_steps)
