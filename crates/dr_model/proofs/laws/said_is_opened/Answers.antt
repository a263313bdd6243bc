use Rattle.dr_model.proofs.Acting.SaidOpened.{said_is_opened}
use Rattle.dr_model.proofs.laws.said_is_opened.Goals as goal

pub returns : goal.returns
returns args = λ k law. said_is_opened k law
