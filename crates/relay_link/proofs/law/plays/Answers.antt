use Rattle.relay_link.proofs.Playing.{always_read, broken, ended, never_ends}
use Rattle.relay_link.proofs.law.plays.Goals as goal

pub returns : goal.returns
returns c = record {
  ended = ended;
  broken = broken;
  always_read = λ p kept s boxes replies rest now asked is waits bad frame reads. always_read p kept s boxes replies rest now asked is waits bad frame reads;
  never_ends = never_ends;
}
