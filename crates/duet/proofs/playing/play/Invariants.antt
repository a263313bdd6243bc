use Rattle.std.proofs.Common.{length}
use Rattle.duet.proofs.PlayedLines.{IsPlaying}
use Rattle.duet.proofs.playing.play.Given as goal

abbrev pub invariant-deeds : goal.invariant-deeds
invariant-deeds g l =
    IsPlaying g.K.Kem.mechanism l.script l.lines l.duet l.tally
    (g.O.Sink.at l.fn.out) (g.O.Sink.at l.out)

abbrev pub decreases-deeds : goal.decreases-deeds
decreases-deeds g l = length l.lines
