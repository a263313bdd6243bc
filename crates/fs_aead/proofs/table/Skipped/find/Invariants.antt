use Rattle.std.proofs.Common.{◌≢◌, ℕ, ◌<◌}
use Rattle.fs_aead.specs.Rows.{row_at}
use Rattle.fs_aead.proofs.table.Skipped.find.Given as goal

abbrev pub invariant-epochs : goal.invariant-epochs
invariant-epochs l = (j : ℕ) → j < l.k → (row_at l.self j).epoch ≢ l.position.epoch
