use Rattle.std.proofs.Common.{ap, ◌∙◌}
use Rattle.dr_chacha20.specs.Stream.{xor_at}
use Rattle.dr_chacha20.proofs.Blocks.{block_is}
use Rattle.dr_chacha20.proofs.cipher.xor_block.Goals as goal

pub returns : goal.returns
returns c =
    c.xor_rows.ensures
    ∙ ap (xor_at c.args.at c.args.bytes.now) (block_is _ _ _ _ _ c.initial_state.ensures c.block_words.ensures)
