use Rattle.std.proofs.Common.{◌≡◌, ◌+◌, ◌/◌, length, ap, ◌∙◌, arith}
use Rattle.dr_chacha20.specs.Stream.{encrypted, key_stream, xor_at, xor_of}
use Rattle.dr_chacha20.proofs.Blocks.{one_block_more}
use Rattle.dr_chacha20.proofs.cipher.xor_in_place.Goals as goal

pub returns-then-bytes-blocks : goal.returns-then-bytes-blocks
unfolding encrypted
returns-then-bytes-blocks c =
    one_block_more _ _ _ _ _ _ _ _ _ _ (omega arith) (omega arith) (omega arith) c.xor_whole_blocks.ensures
    (c.xor_rest.ensures ∙ ap (xor_at _ _) c.block-stream.ensures)

pub returns-else-bytes-blocks : goal.returns-else-bytes-blocks
unfolding encrypted
returns-else-bytes-blocks c =
    let text = c.args.bytes.now in
    let same : length text / 64 ≡ (length text + 63) / 64 = omega arith in
    c.xor_whole_blocks.ensures
    ∙ ap (λ n. xor_of text (key_stream c.args.key.now c.args.counter c.args.nonce.now n)) same
