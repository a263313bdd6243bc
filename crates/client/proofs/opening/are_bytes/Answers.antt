use Rattle.std.proofs.Common.{arith}
use Rattle.dr_base.proofs.Bytes.{are_bytes}
use Rattle.client.proofs.opening.are_bytes.Goals as goal

pub returns : goal.returns
returns c = are_bytes c.args.bytes.now (λ i. omega (arith, c.type_inv.bytes i))
