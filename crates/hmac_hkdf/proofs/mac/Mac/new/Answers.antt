-- Each hasher has taken in the key's block under its pad.
use Rattle.std.proofs.Common.{[]}
use Rattle.std.proofs.lemmas.List.{append-nil}
use Rattle.hmac_hkdf.specs.Hmac.{MacHolds, padded}
use Rattle.hmac_hkdf.proofs.mac.Mac.new.Goals as goal

pub returns : goal.returns
unfolding MacHolds padded
returns c = (
  rw (append-nil, ← c.block_key-block.ensures, ← c.xored.ensures) (c.update.ensures [] c.new-inner.ensures),
  rw (← c.block_key-block.ensures, ← c.xored-2.ensures) (c.update-2.ensures [] c.new-outer.ensures),
)
