use Rattle.client.proofs.LongTexts.{all_or_none, none_left}
use Rattle.client.proofs.long_laws.long_leaves_whole.Goals as goal

pub returns-clause-meanwhile : goal.returns-clause-meanwhile
returns-clause-meanwhile g c = λ k law w side id old is between.
    all_or_none k law w side id old old is (g.D.Disk.state c.args.before.now) (g.D.Disk.state c.args.after.now) between

pub returns-clause-left : goal.returns-clause-left
returns-clause-left g c = λ k law w side id old new is acts.
    none_left k law w side id old new is (g.D.Disk.state c.args.before.now) (g.D.Disk.state c.args.after.now) acts
