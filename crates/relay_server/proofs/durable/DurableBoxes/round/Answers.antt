use Rattle.std.proofs.Common.{refl, subst, sym, ◌∙◌, ℕ}
use Rattle.dr_ports.specs.Ports.{Rose}
use Rattle.dr_ports.specs.declared.pipe.Part.TheVariants.{Flow}
use Rattle.relay_server.proofs.Rounds.{came_part, pulled_part}
use Rattle.relay_server.proofs.durable.DurableBoxes.round.Goals as goal

pub returns-in-Err-clause-rounds : goal.returns-in-Err-clause-rounds
returns-in-Err-clause-rounds g c = (
  c.pull.new.reader.bytes,
  pulled_part c.args.reader.now c.pull.new.reader c.args.self.now.boxes (g.P.Pipe.port c.args.pipe.now) (g.P.Pipe.port c.pull.new.pipe) (g.D.Disk.state c.args.disk.now) c.requires.fresh c.in-Err.ensures.pulls.0 c.in-Err.ensures.pulls.1,
  c.in-Err.ensures.pulls.2,
  c.requires.can.ready,
  λ call. refl,
)

pub returns-in-Err-send_all-clause-rounds : goal.returns-in-Err-send_all-clause-rounds
returns-in-Err-send_all-clause-rounds g c =
    let pulls = rw c.in-Ok-true.field-0-test at c.in-Ok-true.ensures.pulls in
    let part = c.in-Err-send_all.ensures.part in
    let rose : Rose ((g.P.Pipe.port c.pull.new.pipe).faults Flow) ((g.P.Pipe.port c.send_all.new.pipe).faults Flow) = c.in-Err-send_all.ensures.leaves.cause.failed in (
      c.pull.new.reader.bytes,
      part.beginning,
      part.remainder,
      came_part c.args.reader.now c.pull.new.reader part.beginning c.args.self.now.boxes c.answer_next.new.self.boxes
          (g.P.Pipe.port c.args.pipe.now) (g.P.Pipe.port c.pull.new.pipe) (g.P.Pipe.port c.send_all.new.pipe)
          (g.D.Disk.state c.args.disk.now) (g.D.Disk.state c.answer_next.new.disk) c.requires.fresh pulls.0 pulls.1 part.took c.answer_next.ensures.answers.next c.answer_next.ensures.answers.leaves.any_moment,
      sym c.in-Ok.ensures.answers.reply.reply ∙ part.split,
      subst (λ (n : ℕ). Rose n ((g.P.Pipe.port c.send_all.new.pipe).faults Flow)) c.in-Ok-true.ensures.leaves.cause.passed rose,
      c.in-Ok.ensures.answers.leaves.ready,
      c.in-Ok.ensures.answers.leaves.quiet,
    )
