use Rattle.dr_disk.proofs.Passing.{one_passed}
use Rattle.dr_disk.proofs.memory.count_passed.Goals as goal

pub returns-clause-one : goal.returns-clause-one
returns-clause-one c = λ m told. one_passed c.args.passed.now _ m c.saturating_add.ensures told
