use Rattle.std.proofs.Common.{subst}
use Rattle.dr_ports.specs.Writing.{Writes}
use Rattle.endings.specs.declared.ending.Ending.TheVariants.{Done}
use Rattle.endings.proofs.Closing.{ends_behind, ends_cut}
use Rattle.command_lines.proofs.closing.finish_written.Goals as goal

pub returns-in-Ok-clause-ends : goal.returns-in-Ok-clause-ends
returns-in-Ok-clause-ends g c = λ lines old writes.
    let wrote =
    subst (λ r. Writes old (g.O.Sink.at c.args.out.now) lines r) c.in-Ok.is writes in
    ends_behind Done lines old _ _ _ wrote.whole wrote.cause.passed c.finish.ensures.ends

pub returns-in-Err-clause-ends : goal.returns-in-Err-clause-ends
returns-in-Err-clause-ends g c = λ lines old writes.
    let wrote =
    subst (λ r. Writes old (g.O.Sink.at c.args.out.now) lines r) c.in-Err.is writes in
    ends_cut lines old _ wrote.part wrote.cause.failed
