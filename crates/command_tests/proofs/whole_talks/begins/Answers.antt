use Rattle.std.proofs.Common.{arith}
use Rattle.std.proofs.lemmas.Bool.Decides.{nat_tests}
use Rattle.command_tests.proofs.Pieces.{begun_in}
use Rattle.command_tests.proofs.whole_talks.begins.Goals as goal

pub returns : goal.returns
returns g c = λ is.
    begun_in g.K.Kem.mechanism _ c.args.key.now c.in_ok-source.ensures _ _ c.begin-status.new.disk _ _ _ _
    c.args.side c.begin-status.ensures.runs (grind (arith, nat_tests))
