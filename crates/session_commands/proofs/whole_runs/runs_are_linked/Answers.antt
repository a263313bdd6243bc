use Rattle.session_commands.proofs.KnownWorlds.{one_lawful}
use Rattle.session_commands.proofs.WholeRuns.{all_lawful, all_linked, all_read, all_whole}
use Rattle.session_commands.proofs.whole_runs.runs_are_linked.Goals as goal

pub returns-clause-linked : goal.returns-clause-linked
returns-clause-linked g c = λ k law side first known lawful run.
    all_linked g.D.Disk.state g.met.D.Disk.lawful g.W.Draws.at k side
    c.args.moments.now first known run
    (c.client_grounds.ensures k law) lawful

pub returns-clause-lawful : goal.returns-clause-lawful
returns-clause-lawful g c = λ k law side first known lawful run n a w is which.
    one_lawful k (known n) w
    (all_lawful g.D.Disk.state g.met.D.Disk.lawful g.W.Draws.at k side
    c.args.moments.now first known run
    (c.client_grounds.ensures k law) lawful n a is) which

pub returns-clause-whole : goal.returns-clause-whole
returns-clause-whole g c = λ k side first known run.
    all_whole g.D.Disk.state g.met.D.Disk.lawful g.W.Draws.at k side
    c.args.moments.now first known run

pub returns-clause-reads : goal.returns-clause-reads
returns-clause-reads g c = λ k law side first known lawful run.
    all_read g.D.Disk.state g.met.D.Disk.lawful g.W.Draws.at k side
    c.args.moments.now first known run
    (c.client_grounds.ensures k law) lawful
