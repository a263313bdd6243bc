use Rattle.dr_base.specs.declared.position.Side.TheVariants.{First, Second}
use Rattle.conversation.specs.Joints.{known_in}
use Rattle.conversation.proofs.Honest.{honest_later}
use Rattle.conversation.proofs.laws.real_packets.Goals as goal

pub returns-clause-first : goal.returns-clause-first
returns-clause-first g c = λ k law w joints lawful are.
    honest_later g.D.Disk.state k (c.headline.ensures k) First c.args.first.now w lawful joints
    (c.runs_are_linked.ensures.linked k law First w (λ n. known_in k First (joints n)) lawful
    (c.join.ensures.first k law w joints lawful are))

pub returns-clause-second : goal.returns-clause-second
returns-clause-second g c = λ k law w joints lawful are.
    honest_later g.E.Disk.state k (c.headline.ensures k) Second c.args.second.now w lawful joints
    (c.runs_are_linked-2.ensures.linked k law Second w (λ n. known_in k Second (joints n)) lawful
    (c.join.ensures.second k law w joints lawful are))
