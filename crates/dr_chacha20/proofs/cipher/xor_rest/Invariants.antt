use Rattle.std.proofs.Common.{◌≡◌, ◌-◌, take}
use Rattle.dr_chacha20.specs.Stream.{xor_at}
use Rattle.dr_chacha20.proofs.cipher.xor_rest.Given as goal

abbrev pub invariant-rest : goal.invariant-rest
invariant-rest l = l.bytes ≡ xor_at l.at l.initial.bytes (take (l.i - l.at) l.stream)
