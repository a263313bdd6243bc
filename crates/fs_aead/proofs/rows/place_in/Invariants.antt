use Rattle.std.proofs.Common.{◌≢◌, ℕ, ◌<◌, ◌≤◌}
use Rattle.fs_aead.specs.Rows.{index_at}
use Rattle.fs_aead.proofs.rows.place_in.Given as goal

abbrev pub invariant-loop-i : goal.invariant-loop-i
invariant-loop-i l = (j : ℕ) → l.fn.row.start ≤ j → j < l.i → index_at l.keys j ≢ l.index
