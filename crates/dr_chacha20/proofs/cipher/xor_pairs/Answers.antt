use Rattle.std.proofs.Common.{sym, arith}
use Rattle.dr_chacha20.specs.Stream.{key_stream}
use Rattle.dr_chacha20.proofs.Blocks.{two_blocks_more}
use Rattle.dr_chacha20.proofs.Xor.{xor_of-nil}
use Rattle.dr_chacha20.proofs.cipher.xor_pairs.Goals as goal

pub pairs-init : goal.pairs-init
unfolding key_stream
pairs-init c = sym (xor_of-nil c.args.bytes.now)

pub pairs-preserved : goal.pairs-preserved
pairs-preserved c =
    two_blocks_more _ _ _ _ _ _ _ _ _ _ (omega arith) (omega arith) (omega arith) c.pairs.invariant c.xor_two_blocks.ensures
