use Rattle.book_store.proofs.Books.Blank.{none_marked, zeros_rest}
use Rattle.book_store.proofs.laws.zeros_are_at_rest.Goals as goal

pub returns-clause-at_rest : goal.returns-clause-at_rest
returns-clause-at_rest g = λ rows size few fits. zeros_rest size rows few fits

pub returns-clause-marked : goal.returns-clause-marked
returns-clause-marked g = λ rows few. none_marked rows few
