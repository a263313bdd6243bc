use Rattle.std.proofs.Common.{◌≡◌, take}
use Rattle.fs_aead.proofs.kept.copy_keys.Given as goal

abbrev pub invariant-keys : goal.invariant-keys
invariant-keys l = l.copy.items ≡ take l.kept-index l.keys
