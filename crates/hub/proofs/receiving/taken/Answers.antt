use Rattle.std.proofs.Common.{ap, ◌∙◌}
use Rattle.dr_base.specs.declared.position.Position.{Position}
use Rattle.session_model.specs.declared.answer.Answer.TheVariants.{Opened}
use Rattle.hub.proofs.Taken.{opened_answer, refused_answer}
use Rattle.hub.proofs.receiving.taken.Goals as goal

pub returns-in-Ok-draft_take : goal.returns-in-Ok-draft_take
returns-in-Ok-draft_take g c =
    ap (λ (p : Position). Opened p) c.position-position.ensures
    ∙ opened_answer g.K.Kem.mechanism c.args.number c.args.packet.now c.peer_key.result c.in-Ok.peer c.peer_key.ensures
    c.in-Ok.ensures.0 c.in-Ok-draft_take.draft c.in-Ok-draft_take.ensures.exact c.in-Ok-draft_take.ensures.draft

pub returns : goal.returns
returns g c =
    refused_answer g.K.Kem.mechanism c.args.number c.args.packet.now c.peer_key.result c.in-Ok.peer c.peer_key.ensures
    c.in-Ok.ensures.0 c.in-Err.refusal c.in-Err.ensures.exact
