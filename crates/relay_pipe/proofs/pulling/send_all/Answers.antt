use Rattle.std.proofs.Common.{◌∙◌}
use Rattle.relay_pipe.proofs.Pulls.{took_first, took_more}
use Rattle.relay_pipe.proofs.pulling.send_all.Goals as goal

pub returns-in-Err-clause-part : goal.returns-in-Err-clause-part
returns-in-Err-clause-part g c = took_first (g.P.Pipe.port c.args.pipe.now) (g.P.Pipe.port c.pieces.pipe) (g.P.Pipe.port c.send_from.new.pipe) c.args.bytes.now c.pieces.done c.pieces.invariant.content c.in-Err.ensures.err

pub pieces-preserved : goal.pieces-preserved
pieces-preserved g c = record {
  within = c.in-Ok.ensures.bound;
  content = took_more (g.P.Pipe.port c.args.pipe.now) (g.P.Pipe.port c.pieces.pipe) (g.P.Pipe.port c.send_from.new.pipe) c.args.bytes.now c.pieces.done c.in-Ok.count c.pieces.invariant.content c.in-Ok.ensures.content;
  quiet = c.in-Ok.ensures.leaves.cause.passed ∙ c.pieces.invariant.quiet;
  gate = c.in-Ok.ensures.leaves.gate ∙ c.pieces.invariant.gate;
  same = c.in-Ok.ensures.leaves.same ∙ c.pieces.invariant.same;
}
