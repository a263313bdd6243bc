use Rattle.hub.proofs.Counting.Calls.{plays_in_numbers}
use Rattle.hub.proofs.playing.fan_play.Goals as goal

pub returns-clause-plays : goal.returns-clause-plays
returns-clause-plays g c =
    plays_in_numbers c.laws.ensures.law c.args.peers c.requires.first c.requires.few c.args.after c.args.mode
    (g.O.Sink.at c.args.out.now) (g.O.Sink.at c.play.new.out) c.play.result c.play.ensures.plays
