use Rattle.std.proofs.Common.{arith}
use Rattle.dr_chacha20.proofs.Blocks.{one_block_more}
use Rattle.dr_chacha20.proofs.cipher.xor_whole_blocks.Goals as goal

pub returns-then-bytes-done : goal.returns-then-bytes-done
returns-then-bytes-done c =
    one_block_more _ _ _ _ _ _ _ _ _ _ (omega arith) (omega arith) (omega arith) c.xor_pairs.ensures c.xor_block.ensures
