use Rattle.parties.specs.Acts.{act_of_call}
use Rattle.duet.proofs.FailsSides.{act_fails, answer_unfailed}
use Rattle.duet.proofs.sides.Duet.fail.Goals as goal

pub returns-in-Ok : goal.returns-in-Ok
returns-in-Ok g c =
    let failure = c.args.failure.now in
    act_fails g.K.Kem.mechanism c.args.self.now c.prepared.new.self failure.side failure.call failure.at c.in-Ok.ensures.drawn
    (act_of_call c.in-Ok.call) c.in-Ok.ensures.comes.0 _ c.act_failed.result c.act_failed.ensures

pub returns-in-Err : goal.returns-in-Err
returns-in-Err g c =
    let failure = c.args.failure.now in
    answer_unfailed g.K.Kem.mechanism c.args.self.now c.prepared.new.self failure.side failure.call failure.at c.in-Err.ensures.drawn
    c.in-Err.answer c.in-Err.ensures.comes.0 c.in-Err.ensures.comes.1
