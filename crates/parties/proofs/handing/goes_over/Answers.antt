use Rattle.parties.proofs.GoingOver.{gone_over}
use Rattle.parties.proofs.handing.goes_over.Goals as goal

pub returns : goal.returns
returns c = λ k. gone_over k (c.goes_over.ensures k)
