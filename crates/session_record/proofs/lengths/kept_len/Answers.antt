use Rattle.std.proofs.Common.{arith}
use Rattle.session_record.proofs.Sizes.{long-kept}
use Rattle.session_record.proofs.lengths.kept_len.Goals as goal

pub returns-clause-len : goal.returns-clause-len
returns-clause-len c = omega (arith, long-kept c.args.keys.now c.are_long.ensures)
