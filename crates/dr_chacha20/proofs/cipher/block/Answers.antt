use Rattle.std.proofs.Common.{◌∙◌}
use Rattle.dr_chacha20.proofs.Blocks.{length-block_of}
use Rattle.dr_chacha20.proofs.Xor.{xor_at-zeros}
use Rattle.dr_chacha20.proofs.cipher.block.Goals as goal

pub returns : goal.returns
returns c = c.xor_block.ensures ∙ xor_at-zeros 64 _ (length-block_of c.args.key.now c.args.counter c.args.nonce.now)
