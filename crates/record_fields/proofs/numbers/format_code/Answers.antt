use Rattle.std.proofs.Common.{arith}
use Rattle.std.proofs.lemmas.Grind.{common_steps}
use Rattle.record_fields.proofs.numbers.format_code.Goals as goal

pub returns-in-Receipts : goal.returns-in-Receipts
returns-in-Receipts c = grind (arith, common_steps)
