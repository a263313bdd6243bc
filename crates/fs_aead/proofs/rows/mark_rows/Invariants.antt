use Rattle.std.proofs.Common.{◌≡◌}
use Rattle.fs_aead.proofs.Starts.{starts_below}
use Rattle.fs_aead.proofs.rows.mark_rows.Given as goal

abbrev pub invariant-keys : goal.invariant-keys
invariant-keys l = l.starts.items ≡ starts_below l.keys l.at
