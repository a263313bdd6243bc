use Rattle.fs_aead.proofs.Directory.{are-rows}
use Rattle.fs_aead.proofs.laws.rows_hold_whole_epochs.Goals as goal

pub returns : goal.returns
returns c = are-rows
