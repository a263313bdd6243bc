use Rattle.std.proofs.Common.{arith, length, ◌∙◌}
use Rattle.dr_ports.proofs.Told.{gave_first, gave_more}
use Rattle.dr_ports.proofs.reading.fill.Goals as goal

pub pieces-preserved : goal.pieces-preserved
pieces-preserved g c = record {
  within = omega (arith, c.in-Ok.ensures.bound, c.read_at.auto.into);
  content = gave_more _ _ _ _ _ c.pieces.count c.in-Ok.more c.pieces.invariant.content c.in-Ok.ensures.kept c.in-Ok.ensures.content;
  quiet = c.in-Ok.ensures.cause.passed ∙ c.pieces.invariant.quiet;
}

pub returns-in-Err-clause-part : goal.returns-in-Err-clause-part
returns-in-Err-clause-part g c =
    gave_first _ _ _ c.pieces.into c.pieces.count (length c.args.into.now) (omega (arith, c.pieces.invariant.within, c.pieces.auto.into)) c.pieces.invariant.content c.in-Err.ensures.err
