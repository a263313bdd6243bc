use Rattle.std.proofs.Common.{arith}
use Rattle.packet.specs.Parts.{fields_of}
use Rattle.packet.proofs.Read.{read_was_printed}
use Rattle.packet.proofs.Viewed.{viewed}
use Rattle.dr_base.proofs.Bytes.{are_bytes}
use Rattle.packet.proofs.view.parse.Goals as goal

pub invariant_of-result : goal.invariant_of-result
invariant_of-result c = viewed c.args.agreement c.args.bytes.now (fields_of c.in_ok-parts.parts) (are_bytes c.args.bytes.now (λ i. omega (arith, c.type_inv.bytes i))) c.in_ok-parts.ensures

pub returns-clause-found : goal.returns-clause-found
returns-clause-found c = read_was_printed c.args.agreement c.args.bytes.now (fields_of c.in_ok-parts.parts) (are_bytes c.args.bytes.now (λ i. omega (arith, c.type_inv.bytes i))) c.in_ok-parts.ensures
