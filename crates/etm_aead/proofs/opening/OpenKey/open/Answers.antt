use Rattle.std.proofs.Common.{refl}
use Rattle.etm_aead.proofs.opening.OpenKey.open.Goals as goal

pub returns-then-not-is_equal-clause-err : goal.returns-then-not-is_equal-clause-err
returns-then-not-is_equal-clause-err c = refl
