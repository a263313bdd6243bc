use Rattle.std.proofs.Common.{length, arith}
use Rattle.packet.specs.Packet.{packet_of}
use Rattle.packet.proofs.Lengths.{length-header_of}
use Rattle.dr_base.proofs.Putting.{then_puts}
use Rattle.packet.proofs.writing.write_into.Goals as goal

pub put-at_tag-requires : goal.put-at_tag-requires
put-at_tag-requires c =
    omega (arith, c.requires.room, c.told-session, c.put_header-at_ciphertext.ensures.next_is, length-header_of c.args.version c.args.session.now c.args.position.epoch c.args.previous c.args.position.index c.args.agreement.now (length c.args.ciphertext.now))

pub put-requires : goal.put-requires
put-requires c =
    omega (arith, c.requires.room, c.told-session, c.told-tag, c.put_header-at_ciphertext.ensures.next_is, c.put-at_tag.ensures.next_is, length-header_of c.args.version c.args.session.now c.args.position.epoch c.args.previous c.args.position.index c.args.agreement.now (length c.args.ciphertext.now))

pub returns-clause-len : goal.returns-clause-len
unfolding packet_of
returns-clause-len c = let all = then_puts (then_puts c.put_header-at_ciphertext.ensures c.put-at_tag.ensures) c.put.ensures in omega (arith, all.next_is)

pub returns-clause-size : goal.returns-clause-size
returns-clause-size c =
    omega (arith, c.told-session, c.told-tag, c.put_header-at_ciphertext.ensures.next_is, c.put-at_tag.ensures.next_is, c.put.ensures.next_is, length-header_of c.args.version c.args.session.now c.args.position.epoch c.args.previous c.args.position.index c.args.agreement.now (length c.args.ciphertext.now))

pub returns-clause-written : goal.returns-clause-written
unfolding packet_of
returns-clause-written c = (then_puts (then_puts c.put_header-at_ciphertext.ensures c.put-at_tag.ensures) c.put.ensures).front

pub returns-clause-rest : goal.returns-clause-rest
returns-clause-rest c = (then_puts (then_puts c.put_header-at_ciphertext.ensures c.put-at_tag.ensures) c.put.ensures).rest
