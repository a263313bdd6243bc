use Rattle.std.proofs.Common.{arith, ◌∙◌}
use Rattle.dr_ports.proofs.Told.{took_more}
use Rattle.dr_ports.proofs.WritingLemmas.{took_first}
use Rattle.dr_ports.proofs.writing.write_all.Goals as goal

pub returns-in-Err : goal.returns-in-Err
returns-in-Err g c = record {
  whole = tt;
  part = took_first _ _ _ c.pieces.done (c.in-Err.ensures.err ∙ c.pieces.invariant.content);
  cause = record {
    later = omega (arith, c.in-Err.ensures.cause.later, c.pieces.invariant.quiet);
    failed = omega (arith, c.in-Err.ensures.cause.failed, c.pieces.invariant.quiet);
    passed = tt;
  };
}

pub pieces-preserved : goal.pieces-preserved
pieces-preserved g c = record {
  within = c.in-Ok.ensures.bound;
  content = took_more _ _ _ _ c.pieces.done c.in-Ok.count c.pieces.invariant.content c.in-Ok.ensures.content;
  quiet = c.in-Ok.ensures.cause.passed ∙ c.pieces.invariant.quiet;
}
