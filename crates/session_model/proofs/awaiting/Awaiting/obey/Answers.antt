use Rattle.std.proofs.Common.{◌∙◌, ap, not, rules}
use Rattle.arrayvec.proofs.ArrayVecLemmas.{filter-from_retain}
use Rattle.bodies.specs.Receipts.{is_covered}
use Rattle.dr_base.specs.declared.position.Position.{Position}
use Rattle.session_model.specs.Awaiting.{still_waiting}
use Rattle.session_model.proofs.awaiting.Awaiting.obey.Goals as goal

pub returns : goal.returns
unfolding still_waiting
returns c =
    filter-from_retain _ (λ (p : Position). not (is_covered c.args.receipt.now p)) _ (λ x b f y called. search rules)
    c.self.inside.positions.items c.retain.new.self.items c.retain.ensures.filtered
    ∙ ap (still_waiting c.args.receipt.now) c.self.view_is
