use Rattle.std.proofs.Common.{arith, rules}
use Rattle.hmac_hkdf.proofs.Blocks.{take-put_block}
use Rattle.hmac_hkdf.proofs.hkdf.put_block.Goals as goal

pub returns : goal.returns
returns c =
    take-put_block c.args.out.now c.args.block.now c.copy_from_slice.new.self c.args.at c.min-len.result _ c.requires (search rules) (search rules) (omega arith) (search rules)
