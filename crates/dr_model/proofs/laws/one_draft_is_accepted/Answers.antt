use Rattle.dr_model.proofs.Saying.Drafts.{one_accepted}
use Rattle.dr_model.proofs.laws.one_draft_is_accepted.Goals as goal

pub returns : goal.returns
returns c = one_accepted
