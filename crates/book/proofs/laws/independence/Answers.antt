use Rattle.book.proofs.Runs.{independent_so}
use Rattle.book.proofs.laws.independence.Goals as goal

pub returns : goal.returns
returns g c = λ name here there.
    independent_so g.K.Kem.mechanism name c.args.first.now c.args.second.now c.args.rest.now c.args.others.now here there
