use Rattle.book.proofs.Fanning.Machine.{fan_steps}
use Rattle.book.proofs.laws.fans_are_steps.Goals as goal

pub returns : goal.returns
returns g c = λ text result did.
    fan_steps g.D.Disk.state g.W.Draws.at g.K.Kem.mechanism text c.args.list.now c.args.old.now c.args.new.now c.args.start.now
    c.args.now.now
    c.args.source.now c.args.left.now c.is_fair.ensures c.requires.may c.requires.listed result did
