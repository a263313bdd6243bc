use Rattle.book.proofs.Runs.{alone_so}
use Rattle.book.proofs.laws.answered_alone.Goals as goal

pub returns : goal.returns
returns g c = λ name events. alone_so g.K.Kem.mechanism name c.args.first.now c.args.rest.now events
