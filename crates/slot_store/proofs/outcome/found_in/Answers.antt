use Rattle.std.proofs.Common.{sym, ap}
use Rattle.std.specs.Prelude.{is_some}
use Rattle.slot_store.proofs.Wipings.Settled.{has_none, has_text}
use Rattle.slot_store.proofs.outcome.found_in.Goals as goal

pub returns-then-pager-eq0 : goal.returns-then-pager-eq0
returns-then-pager-eq0 c = sym (ap is_some (has_none c.args.pager.now c.if-pager-eq0.true))

pub returns-else-pager-eq0 : goal.returns-else-pager-eq0
returns-else-pager-eq0 c = sym (ap is_some (has_text c.args.pager.now c.if-pager-eq0.false))
