use Rattle.book_store.proofs.FaultlessBooks.{laid_out}
use Rattle.book_store.proofs.laws.laid_tables_are_faultless.Goals as goal

pub returns : goal.returns
returns g = λ rows turn marks are. laid_out rows turn marks are
