use Rattle.std.proofs.Common.{refl, sym, ◌∙◌}
use Rattle.client.specs.Syncing.Moments.{had_no_room, was_cut, was_written}
use Rattle.client.proofs.syncing.lines.answered.Goals as goal

pub returns-then-is_full-clause-answers : goal.returns-then-is_full-clause-answers
returns-then-is_full-clause-answers g c = had_no_room (sym c.is_full.ensures ∙ c.if-is_full.true) refl refl

pub returns-in-Err-clause-answers : goal.returns-in-Err-clause-answers
returns-in-Err-clause-answers g c = was_cut (sym c.is_full.ensures ∙ c.if-is_full.false) c.in-Err.ensures.part c.in-Err.ensures.cause.failed

pub returns-in-Ok-clause-answers : goal.returns-in-Ok-clause-answers
returns-in-Ok-clause-answers g c = was_written tt (sym c.is_full.ensures ∙ c.if-is_full.false) c.in-Ok.ensures.whole c.in-Ok.ensures.cause.passed
