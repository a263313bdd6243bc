use Rattle.book_model.proofs.Running.{books_answer_alone}
use Rattle.book_model.proofs.laws.answered_alone.Goals as goal

pub returns : goal.returns
returns g c = λ k. books_answer_alone k
