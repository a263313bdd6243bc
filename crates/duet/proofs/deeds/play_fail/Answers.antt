use Rattle.std.proofs.Common.{◌∙◌, subst}
use Rattle.dr_ports.specs.Writing.{Writes}
use Rattle.duet.proofs.FailsSides.{shut_counts, shut_lines, well_counts, well_lines}
use Rattle.duet.proofs.deeds.play_fail.Goals as goal

pub returns-in-Ok-clause-counts : goal.returns-in-Ok-clause-counts
returns-in-Ok-clause-counts g c =
    let failure = c.args.failure.now in
    let ends = c.in-Ok.ensures.ends in
    c.tell.ensures.counts
    ∙ well_counts g.K.Kem.mechanism c.args.duet.now failure.side failure.call failure.at c.in-Ok.answer c.args.tally.now ends.0 ends.1

pub returns-in-Ok-clause-writes : goal.returns-in-Ok-clause-writes
returns-in-Ok-clause-writes g c =
    let failure = c.args.failure.now in
    let ends = c.in-Ok.ensures.ends in
    subst (λ bytes. Writes (g.O.Sink.at c.args.out.now) (g.O.Sink.at c.tell.new.out) bytes c.tell.result)
    (well_lines g.K.Kem.mechanism c.args.duet.now failure.side failure.call failure.at c.in-Ok.answer ends.0 ends.1) c.tell.ensures.writes

pub returns-in-Err-clause-counts : goal.returns-in-Err-clause-counts
returns-in-Err-clause-counts g c =
    let failure = c.args.failure.now in
    shut_counts g.K.Kem.mechanism c.args.duet.now failure.side failure.call failure.at c.in-Err.call c.args.tally.now c.in-Err.ensures.ends

pub returns-in-Err-clause-writes : goal.returns-in-Err-clause-writes
returns-in-Err-clause-writes g c =
    let failure = c.args.failure.now in
    subst (λ bytes. Writes (g.O.Sink.at c.args.out.now) (g.O.Sink.at c.write_line.new.out) bytes c.write_line.result)
    (c.failed_line.ensures
    ∙ shut_lines g.K.Kem.mechanism c.args.duet.now failure.side failure.call failure.at c.in-Err.call c.in-Err.ensures.ends)
    c.write_line.ensures
