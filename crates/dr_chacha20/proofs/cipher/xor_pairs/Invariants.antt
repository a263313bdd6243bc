use Rattle.std.proofs.Common.{◌≡◌, ◌*◌}
use Rattle.dr_chacha20.specs.Stream.{key_stream, xor_of}
use Rattle.dr_chacha20.proofs.cipher.xor_pairs.Given as goal

abbrev pub invariant-pairs : goal.invariant-pairs
invariant-pairs l = l.bytes ≡ xor_of l.initial.bytes (key_stream l.key l.counter l.nonce (2 * l.i))
