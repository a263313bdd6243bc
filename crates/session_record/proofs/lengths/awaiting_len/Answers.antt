use Rattle.std.proofs.Common.{◌≡◌, ◌+◌, ◌*◌, List, ap, arith, length, subst}
use Rattle.dr_base.specs.declared.position.Position.{Position}
use Rattle.session_model.specs.States.{State}
use Rattle.session_record.specs.Awaiting.{awaiting_text}
use Rattle.session_record.specs.Versions.{newest}
use Rattle.session_record.specs.declared.limits.TheConstants.{PLACE_SIZE}
use Rattle.session_record.proofs.Sizes.{size-awaiting}
use Rattle.session_record.proofs.lengths.awaiting_len.Goals as goal

pub returns : goal.returns
returns g c =
    let same = ap (λ (l : List Position). length l) c.positions.ensures.value in
    subst (λ (s : State). 1 + PLACE_SIZE * length c.positions.result.now ≡ length (awaiting_text newest s.awaiting)) c.part.view_is
    (omega (arith, size-awaiting c.part.inside.head.now.awaiting, same))
