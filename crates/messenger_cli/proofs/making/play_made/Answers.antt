use Rattle.std.proofs.Common.{◌∙◌}
use Rattle.endings.specs.declared.ending.Ending.TheVariants.{Done}
use Rattle.endings.proofs.Closing.{ends_behind, ends_cut}
use Rattle.messenger_cli.proofs.Made.{made_summary}
use Rattle.messenger_cli.proofs.making.play_made.Goals as goal

pub returns-in-Ok-write_all-clause-runs : goal.returns-in-Ok-write_all-clause-runs
returns-in-Ok-write_all-clause-runs g c =
    let came = c.as_slice.ensures.value ∙ c.summary_lines.ensures in
    let wrote = c.in-Ok-write_all.ensures in
    record {
      ending = Done;
      lines = c.as_slice.result.now;
      came = made_summary _ _ _ _ c.in-Ok.ensures.tally came;
      ends = ends_behind Done _ _ _ _ _ wrote.whole wrote.cause.passed c.finish-in-Ok-write_all.ensures.ends;
    }

pub returns-in-Err-write_all-clause-runs : goal.returns-in-Err-write_all-clause-runs
returns-in-Err-write_all-clause-runs g c =
    let came = c.as_slice.ensures.value ∙ c.summary_lines.ensures in
    let wrote = c.in-Err-write_all.ensures in
    record {
      ending = Done;
      lines = c.as_slice.result.now;
      came = made_summary _ _ _ _ c.in-Ok.ensures.tally came;
      ends = ends_cut _ _ _ wrote.part wrote.cause.failed;
    }
