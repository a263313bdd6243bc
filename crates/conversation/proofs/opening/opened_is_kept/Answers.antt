use Rattle.dr_base.specs.declared.position.Side.TheVariants.{First, Second}
use Rattle.conversation.specs.Joints.{known_in}
use Rattle.conversation.proofs.Said.{holds_opened}
use Rattle.conversation.proofs.opening.opened_is_kept.Goals as goal

pub returns-clause-first : goal.returns-clause-first
returns-clause-first g c = λ k law w joints lawful are.
    let one = c.join.ensures.first k law w joints lawful are in
    let two = c.join.ensures.second k law w joints lawful are in
    holds_opened g.D.Disk.state g.E.Disk.state g.W.Draws.at k (c.headline.ensures k) First
    c.args.first.now c.args.second.now w lawful joints
    (c.runs_are_linked.ensures.linked k law First w (λ n. known_in k First (joints n)) lawful one)
    (c.runs_are_linked.ensures.lawful k law First w (λ n. known_in k First (joints n)) lawful one)
    (c.runs_are_linked-2.ensures.lawful k law Second w (λ n. known_in k Second (joints n)) lawful two)

pub returns-clause-second : goal.returns-clause-second
returns-clause-second g c = λ k law w joints lawful are.
    let one = c.join.ensures.first k law w joints lawful are in
    let two = c.join.ensures.second k law w joints lawful are in
    holds_opened g.E.Disk.state g.D.Disk.state g.W.Draws.at k (c.headline.ensures k) Second
    c.args.second.now c.args.first.now w lawful joints
    (c.runs_are_linked-2.ensures.linked k law Second w (λ n. known_in k Second (joints n)) lawful two)
    (c.runs_are_linked-2.ensures.lawful k law Second w (λ n. known_in k Second (joints n)) lawful two)
    (c.runs_are_linked.ensures.lawful k law First w (λ n. known_in k First (joints n)) lawful one)
