use Rattle.endings.specs.declared.ending.Ending.TheVariants.{Done}
use Rattle.endings.proofs.Closing.{ends_behind, ends_cut}
use Rattle.messenger_cli.proofs.playing.play_script.Goals as goal

pub returns-in-Ok-clause-runs : goal.returns-in-Ok-clause-runs
returns-in-Ok-clause-runs g c =
    let works = c.in-Ok.ensures.ended in
    record {
      ending = c.in-Ok.ending;
      lines = works.lines;
      reason = works.reason;
      leaves = works.leaves;
      reads = works.reads;
      ends = ends_behind c.in-Ok.ending works.lines _ _ _ _ works.wrote works.quiet c.finish.ensures.ends;
    }

pub returns-in-Err-clause-runs : goal.returns-in-Err-clause-runs
returns-in-Err-clause-runs g c =
    let cut = c.in-Err.ensures.cut in
    record {
      ending = Done;
      lines = cut.lines;
      reason = cut.reason;
      leaves = cut.leaves;
      reads = cut.reads;
      ends = ends_cut cut.lines _ _ cut.wrote cut.rose;
    }
