use Rattle.cka.proofs.Agreement.{agrees}
use Rattle.cka.proofs.theory.agreement_holds.Goals as goal

pub returns : goal.returns
returns g c = agrees g.K.Kem.mechanism g.met.K.Kem.law
