use Rattle.std.proofs.Common.{refl}
use Rattle.command_lines.specs.Closing.{begun_ending, begun_lines}
use Rattle.book_commands.specs.Beginning.{had_key, had_no_key}
use Rattle.book_commands.proofs.beginning.read_and_begin.Goals as goal

pub returns-in-Err-clause-runs : goal.returns-in-Err-clause-runs
returns-in-Err-clause-runs g c = had_no_key c.in-Err.ending c.in-Err.ensures.input refl

pub returns-in-Ok-clause-runs : goal.returns-in-Ok-clause-runs
returns-in-Ok-clause-runs g c =
    had_key c.in-Ok.key (begun_ending c.begin_on.result) (begun_lines c.begin_on.result) c.in-Ok.ensures.input
    c.begin_on.ensures
