use Rattle.std.proofs.Common.{◌+◌, ap, ap₂, ◌∙◌, arith}
use Rattle.dr_chacha20.specs.Stream.{xor_at}
use Rattle.dr_chacha20.proofs.Blocks.{block_is, length-block_of}
use Rattle.dr_chacha20.proofs.Xor.{xor_at-next}
use Rattle.dr_chacha20.proofs.cipher.xor_two_blocks.Goals as goal

pub returns : goal.returns
returns c =
    let at = c.args.at in
    let text = c.args.bytes.now in
    let first = block_is _ _ _ _ _ c.initial_state.ensures c.two_block_words.ensures.first in
    let second = block_is _ _ _ _ _ c.initial_state-2.ensures c.two_block_words.ensures.second in
    let long = length-block_of c.args.key.now c.args.counter c.args.nonce.now in
    c.xor_rows-2.ensures
    ∙ ap₂ (xor_at (at + 64)) (c.xor_rows.ensures ∙ ap (xor_at at text) first) second
    ∙ xor_at-next at (at + 64) text _ _ (omega arith)
