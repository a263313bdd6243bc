use Rattle.std.proofs.Common.{◌≡◌, length, take, map, bit_xor}
use Rattle.hmac_hkdf.proofs.mac.xored.Given as goal

abbrev pub invariant-bytes : goal.invariant-bytes
invariant-bytes l = record {
  len : length l.out ≡ 64;
  so_far : take l.i l.out ≡ map (λ b. bit_xor b l.pad) (take l.i l.block);
}
