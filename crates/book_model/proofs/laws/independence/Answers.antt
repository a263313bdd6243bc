use Rattle.book_model.proofs.Running.{names_are_independent}
use Rattle.book_model.proofs.laws.independence.Goals as goal

pub returns : goal.returns
returns g c = λ k. names_are_independent k
