use Rattle.long_text.specs.Longs.{long_of}
use Rattle.command_lines.proofs.Joined.{ends_unjoined}
use Rattle.command_lines.proofs.longs.close_long.Goals as goal

pub returns-in-Err-clause-ends : goal.returns-in-Err-clause-ends
returns-in-Err-clause-ends g c =
    ends_unjoined _ _ c.args.id (long_of c.args.id c.args.core.now.inbox) (g.O.Sink.at c.args.out.now) (g.O.Sink.at c.finish.new.out)
    c.finish.result.code c.in-Err.refusal c.in-Err.ensures c.finish.ensures.ends
