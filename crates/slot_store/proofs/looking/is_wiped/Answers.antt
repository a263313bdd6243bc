use Rattle.std.proofs.Common.{◌≡◌, ◌-◌, length, replicate, ◌∙◌, ap, arith}
use Rattle.dr_base.specs.declared.limits.TheConstants.{PAGE}
use Rattle.pages.specs.Judged.{table_with}
use Rattle.slot_store.proofs.Wipings.Wiping.{blank_true}
use Rattle.slot_store.proofs.looking.is_wiped.Goals as goal

pub returns-then-gate-eq0 : goal.returns-then-gate-eq0
returns-then-gate-eq0 c = (
  λ yes. ap (table_with c.args.gate) (c.is_blank.ensures.zeros yes
      ∙ ap (λ k. replicate k 0) (let e : length c.args.body.now ≡ PAGE - 1 = omega arith in e))
      ∙ ap (λ k. table_with k (replicate (PAGE - 1) 0)) c.if-gate-eq0.true,
  λ zero. blank_true c.is_blank.result c.args.body.now c.is_blank.ensures.others (ap (λ t. t.body) zero) (omega arith),
)
