use Rattle.command_tests.specs.Talks.{HasPosted, HoldsPacket}
use Rattle.command_tests.proofs.Pieces.{if_ok}
use Rattle.command_tests.proofs.whole_talks.posts.Goals as goal

pub returns : goal.returns
returns g c =
    if_ok (λ digits. HoldsPacket g.K.Kem.mechanism digits.items c.says.new.disk)
    (λ digits. HasPosted g.K.Kem.mechanism c.args.text.now digits.items c.args.disk.now)
    (λ digits holds. record {
      now = c.says.new.disk;
      said = c.in_ok-says.ensures c.if-not-branch.false;
      holds = holds;
    }) c.packet_of.result c.packet_of.ensures
