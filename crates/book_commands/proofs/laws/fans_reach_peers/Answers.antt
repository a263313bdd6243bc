use Rattle.book_commands.proofs.FanReached.{fan_reaches}
use Rattle.book_commands.proofs.laws.fans_reach_peers.Goals as goal

pub returns : goal.returns
returns g c = λ k law text names ending lines runs done.
    fan_reaches g.D.Disk.state g.W.Draws.at k (c.acts_follow.ensures k law) (c.said_is_opened.ensures k law) text names
    c.args.before.now c.args.after.now c.args.draws.now c.args.left.now ending lines runs done
