-- each key so far has 32 bytes
use Rattle.std.proofs.Common.{◌≡◌, ◌<◌, ℕ, length, get_or}
use Rattle.dr_base.specs.declared.key.Kept.{Kept}
use Rattle.session_record.proofs.kept.are_long.Given as goal

abbrev pub invariant-keys : goal.invariant-keys
invariant-keys l = (j : ℕ) → j < l.i → (d : Kept) → j < length l.keys → length (get_or l.keys j d).key.bytes ≡ 32
