use Rattle.std.proofs.Common.{arith}
use Rattle.std.proofs.lemmas.Bool.Decides.{nat_tests}
use Rattle.command_tests.proofs.Pieces.{said_in}
use Rattle.command_tests.proofs.whole_talks.says.Goals as goal

pub returns : goal.returns
returns g c = λ is.
    said_in g.K.Kem.mechanism c.args.text.now _ _ c.args.disk.now c.say-status.new.disk _ _ _ _
    c.say-status.ensures (grind (arith, nat_tests))
