use Rattle.std.proofs.Common.{⊎_elim}
use Rattle.dr_base.specs.declared.position.Side.TheVariants.{First, Second}
use Rattle.conversation.specs.Joints.{known_in}
use Rattle.conversation.proofs.HandedOut.{handed_later, handed_said}
use Rattle.conversation.proofs.laws.handed_out.Goals as goal

pub returns-clause-said : goal.returns-clause-said
returns-clause-said g c = λ k law w joints lawful are n packet handed.
    let one = c.join.ensures.first k law w joints lawful are in
    let two = c.join.ensures.second k law w joints lawful are in
    ⊎_elim
    (λ has. handed_said g.D.Disk.state g.W.Draws.at k (c.client_grounds.ensures k law) (c.headline.ensures k)
    First c.args.first.now joints
    (c.runs_are_linked.ensures.lawful k law First w (λ i. known_in k First (joints i)) lawful one) n packet has)
    (λ has. handed_said g.E.Disk.state g.W.Draws.at k (c.client_grounds.ensures k law) (c.headline.ensures k)
    Second c.args.second.now joints
    (c.runs_are_linked-2.ensures.lawful k law Second w (λ i. known_in k Second (joints i)) lawful two) n packet has)
    handed

pub returns-clause-first : goal.returns-clause-first
returns-clause-first g c = λ k law w joints lawful are n m b packet v less is handed which.
    let one = c.join.ensures.first k law w joints lawful are in
    let two = c.join.ensures.second k law w joints lawful are in
    let linked = c.runs_are_linked.ensures.linked k law First w (λ i. known_in k First (joints i)) lawful one in
    ⊎_elim
    (λ has. handed_later g.D.Disk.state g.W.Draws.at k (c.client_grounds.ensures k law) (c.headline.ensures k)
    First c.args.first.now joints
    (c.runs_are_linked.ensures.lawful k law First w (λ i. known_in k First (joints i)) lawful one) n packet has
    g.D.Disk.state First c.args.first.now w lawful linked m b v less is which)
    (λ has. handed_later g.E.Disk.state g.W.Draws.at k (c.client_grounds.ensures k law) (c.headline.ensures k)
    Second c.args.second.now joints
    (c.runs_are_linked-2.ensures.lawful k law Second w (λ i. known_in k Second (joints i)) lawful two) n packet has
    g.D.Disk.state First c.args.first.now w lawful linked m b v less is which)
    handed

pub returns-clause-second : goal.returns-clause-second
returns-clause-second g c = λ k law w joints lawful are n m b packet v less is handed which.
    let one = c.join.ensures.first k law w joints lawful are in
    let two = c.join.ensures.second k law w joints lawful are in
    let linked = c.runs_are_linked-2.ensures.linked k law Second w (λ i. known_in k Second (joints i)) lawful two in
    ⊎_elim
    (λ has. handed_later g.D.Disk.state g.W.Draws.at k (c.client_grounds.ensures k law) (c.headline.ensures k)
    First c.args.first.now joints
    (c.runs_are_linked.ensures.lawful k law First w (λ i. known_in k First (joints i)) lawful one) n packet has
    g.E.Disk.state Second c.args.second.now w lawful linked m b v less is which)
    (λ has. handed_later g.E.Disk.state g.W.Draws.at k (c.client_grounds.ensures k law) (c.headline.ensures k)
    Second c.args.second.now joints
    (c.runs_are_linked-2.ensures.lawful k law Second w (λ i. known_in k Second (joints i)) lawful two) n packet has
    g.E.Disk.state Second c.args.second.now w lawful linked m b v less is which)
    handed
