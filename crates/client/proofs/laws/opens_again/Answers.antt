use Rattle.client.proofs.Reopening.{holds_record, not_refused}
use Rattle.client.proofs.laws.opens_again.Goals as goal

pub returns-clause-holds : goal.returns-clause-holds
returns-clause-holds g c = λ k held. holds_record k (g.D.Disk.state c.args.before.now) held

pub returns-clause-refused : goal.returns-clause-refused
returns-clause-refused g c = λ k refusal held unopened.
    not_refused g.D.Disk.state k c.args.before.now c.args.after.now held refusal unopened
