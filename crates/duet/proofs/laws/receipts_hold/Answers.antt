use Rattle.duet.proofs.Following.{arrives, receipts_hold}
use Rattle.duet.proofs.laws.receipts_hold.Goals as goal

pub returns-clause-within : goal.returns-clause-within
returns-clause-within c = receipts_hold

pub returns-clause-after : goal.returns-clause-after
returns-clause-after c k script side source p law pairs whole fair ends = arrives k script side source p law pairs whole fair ends
