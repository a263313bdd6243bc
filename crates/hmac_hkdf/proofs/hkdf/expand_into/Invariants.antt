use Rattle.std.proofs.Common.{◌≡◌, ◌*◌, ◌<◌, length, take}
use Rattle.hmac_hkdf.specs.Hkdf.{expand_block, expand_blocks}
use Rattle.hmac_hkdf.proofs.hkdf.expand_into.Given as goal

abbrev pub invariant-output : goal.invariant-output
invariant-output l = record {
  len : length l.block ≡ 32;
  previous : 0 < l.i → l.block ≡ expand_block l.prk l.info l.i;
  written : take (32 * l.i) l.out ≡ take (length l.out) (expand_blocks l.prk l.info l.i);
}
