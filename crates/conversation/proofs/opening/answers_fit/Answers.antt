use Rattle.conversation.proofs.Fitting.Printed.{answer_fits}
use Rattle.conversation.proofs.opening.answers_fit.Goals as goal

pub returns : goal.returns
returns g c = λ k side moments joints n before after command lines runs acked.
    answer_fits g.D.Disk.state g.W.Draws.at k side moments joints n command lines acked before after
    runs
