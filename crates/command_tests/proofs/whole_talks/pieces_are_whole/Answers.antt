use Rattle.command_tests.proofs.Whole.{has_talked}
use Rattle.command_tests.proofs.whole_talks.pieces_are_whole.Goals as goal

pub returns : goal.returns
returns g c = λ key text digits first second begun posted took.
    has_talked g.K.Kem.mechanism key text digits first second begun posted took
    (c.whole_talk.ensures g.K.Kem.mechanism c.laws.ensures.law)
