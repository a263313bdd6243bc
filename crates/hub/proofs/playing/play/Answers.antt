use Rattle.hub.proofs.Played.{plays_part, plays_whole}
use Rattle.hub.proofs.playing.play.Goals as goal

pub returns-in-Ok-write_all-clause-plays : goal.returns-in-Ok-write_all-clause-plays
returns-in-Ok-write_all-clause-plays g c =
    plays_whole g.K.Kem.mechanism c.args.peers c.args.after c.args.mode c.in-Ok-fan_stopped.left.acknowledged
    c.in-Ok-fan_stopped.left.book.rows c.in-Ok-fan_stopped.ensures.left c.put_lines.new.lines.items c.as_slice.result.now
    c.in-Ok-put_lines.ensures c.as_slice.ensures.value (g.O.Sink.at c.args.out.now) (g.O.Sink.at c.write_all.new.out)
    (c.acts_follow.ensures g.K.Kem.mechanism c.laws.ensures.law) (c.said_is_opened.ensures g.K.Kem.mechanism c.laws.ensures.law)
    c.requires.first c.requires.few c.in-Ok.ensures.pairs c.in-Ok-write_all.ensures.whole c.in-Ok-write_all.ensures.cause.passed

pub returns-clause-plays : goal.returns-clause-plays
returns-clause-plays g c =
    plays_part g.K.Kem.mechanism c.args.peers c.args.after c.args.mode c.in-Ok-fan_stopped.left.acknowledged
    c.in-Ok-fan_stopped.left.book.rows c.in-Ok-fan_stopped.ensures.left c.put_lines.new.lines.items c.as_slice.result.now
    c.in-Ok-put_lines.ensures c.as_slice.ensures.value (g.O.Sink.at c.args.out.now) (g.O.Sink.at c.write_all.new.out)
    (c.acts_follow.ensures g.K.Kem.mechanism c.laws.ensures.law) (c.said_is_opened.ensures g.K.Kem.mechanism c.laws.ensures.law)
    c.requires.first c.requires.few c.in-Ok.ensures.pairs c.in-Err-write_all.ensures.part c.in-Err-write_all.ensures.cause.failed
