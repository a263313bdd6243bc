use Rattle.dr_base.specs.declared.position.Side.TheVariants.{First, Second}
use Rattle.conversation.specs.Joints.{known_in}
use Rattle.conversation.proofs.Onward.RealReplies.{real_unforged}
use Rattle.conversation.proofs.opening.real_replies.Goals as goal

pub returns-clause-first : goal.returns-clause-first
returns-clause-first g c = λ k law w joints lawful are m b v is which.
    real_unforged g.D.Disk.state k (c.headline.ensures k) First c.args.first.now w lawful joints
    (c.runs_are_linked.ensures.linked k law First w (λ n. known_in k First (joints n)) lawful
    (c.join.ensures.first k law w joints lawful are)) m b is v which

pub returns-clause-second : goal.returns-clause-second
returns-clause-second g c = λ k law w joints lawful are m b v is which.
    real_unforged g.E.Disk.state k (c.headline.ensures k) Second c.args.second.now w lawful joints
    (c.runs_are_linked-2.ensures.linked k law Second w (λ n. known_in k Second (joints n)) lawful
    (c.join.ensures.second k law w joints lawful are)) m b is v which
