use Rattle.client.proofs.Syncs.GoingOver.{goes_over as goes_over_by}
use Rattle.client.proofs.syncing.laws.goes_over.Goals as goal

pub returns : goal.returns
returns c = goes_over_by
