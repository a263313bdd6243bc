use Rattle.std.proofs.Common.{arith}
use Rattle.relay_wire.specs.Seen.{replied_of}
use Rattle.relay_pipe.proofs.Asked.{whole_reply}
use Rattle.dr_base.proofs.Bytes.{are_bytes}
use Rattle.relay_pipe.proofs.asking.read.Goals as goal

pub returns-in-Ok-clause-reply : goal.returns-in-Ok-clause-reply
returns-in-Ok-clause-reply c =
    (whole_reply c.args.frame.now.bytes.now c.args.bytes.now (replied_of c.in-Ok.reply) c.requires c.args.frame.now.whole
    (are_bytes c.args.bytes.now (λ i. omega (arith, c.type_inv.bytes i))) c.in-Ok.ensures.reads).0

pub returns-in-Ok-clause-lawful : goal.returns-in-Ok-clause-lawful
returns-in-Ok-clause-lawful c =
    (whole_reply c.args.frame.now.bytes.now c.args.bytes.now (replied_of c.in-Ok.reply) c.requires c.args.frame.now.whole
    (are_bytes c.args.bytes.now (λ i. omega (arith, c.type_inv.bytes i))) c.in-Ok.ensures.reads).1
