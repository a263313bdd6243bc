use Rattle.std.proofs.Common.{[], subst}
use Rattle.endings.specs.Ends.{Ends}
use Rattle.endings.specs.declared.ending.Ending.{Ending}
use Rattle.session_commands.proofs.Syncs.{closes, not_done}
use Rattle.session_commands.proofs.syncing.close_broken.Goals as goal

pub returns-in_default : goal.returns-in_default
returns-in_default g c =
    let ends =
    subst (λ (e : Ending). Ends e [] (g.O.Sink.at c.args.out.now) (g.O.Sink.at c.finish.new.out) c.finish.result.code) c.broken_off.ensures c.finish.ensures.ends in
    record {
      ends = λ lines old wrote.
          closes lines old (g.O.Sink.at c.args.out.now) (g.O.Sink.at c.finish.new.out) c.args.fault c.finish.result.code c.in_default.not-Write ends wrote;
      fails = not_done c.args.fault (g.O.Sink.at c.args.out.now) (g.O.Sink.at c.finish.new.out) c.finish.result.code c.in_default.not-Write ends;
      later = c.finish.ensures.later;
    }
