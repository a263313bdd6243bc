use Rattle.session_commands.proofs.PartRuns.{AreQuiet}
use Rattle.session_commands.proofs.PartsSaid.{SaidSoFar}
use Rattle.session_commands.specs.Disks.{HasClientRoom}
use Rattle.session_commands.specs.LongSaying.{parts_from}
use Rattle.session_commands.proofs.long_saying.say_parts.Given as goal

abbrev pub invariant-parts : goal.invariant-parts
invariant-parts g l = record {
  far : SaidSoFar g.D.Disk.state g.W.Draws.at g.K.Kem.mechanism (parts_from l.id l.text l.from) (parts_from l.id l.text l.number)
      l.fn.disk l.disk l.fn.draws l.draws (g.O.Sink.at l.fn.out) (g.O.Sink.at l.out);
  calm : AreQuiet g.D.Disk.state g.W.Draws.at g.K.Kem.mechanism l.fn.disk l.disk l.fn.draws l.draws;
  room : HasClientRoom (g.D.Disk.state l.disk);
}
