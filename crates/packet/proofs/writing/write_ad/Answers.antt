use Rattle.std.proofs.Common.{arith}
use Rattle.packet.proofs.Lengths.{length-header_of}
use Rattle.packet.proofs.writing.write_ad.Goals as goal

pub returns-clause-size : goal.returns-clause-size
returns-clause-size c =
    omega (arith, c.put_header.ensures.next_is, c.told-session, length-header_of c.args.version c.args.session.now c.args.position.epoch c.args.previous c.args.position.index c.args.agreement.now c.args.text_len)
