use Rattle.std.proofs.Common.{arith, ap, ◌∙◌}
use Rattle.std.proofs.lemmas.Grind.{common_steps}
use Rattle.dr_ports.specs.Ports.{appended}
use Rattle.client.proofs.Syncs.Written.{writes_behind, writes_as}
use Rattle.client.proofs.syncing.lines.write_line.Goals as goal

pub returns-in-Ok : goal.returns-in-Ok
returns-in-Ok g c =
    writes_behind (g.O.Sink.at c.args.out.now) (g.O.Sink.at c.write_all.new.out) (g.O.Sink.at c.write_all-in-Ok.new.out)
    c.args.prefix.now c.args.line.now c.write_all-in-Ok.result
    (c.in-Ok.ensures.whole ∙ ap (appended (g.O.Sink.at c.args.out.now).taken) c.as_bytes.ensures.value) c.in-Ok.ensures.cause.passed
    (writes_as _ _ c.as_bytes-in-Ok.result.now c.args.line.now c.write_all-in-Ok.result c.as_bytes-in-Ok.ensures c.write_all-in-Ok.ensures)

pub returns-in-Err : goal.returns-in-Err
returns-in-Err g c = grind (arith, common_steps)
