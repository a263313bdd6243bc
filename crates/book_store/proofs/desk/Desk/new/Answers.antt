use Rattle.book_store.proofs.desk.Desk.new.Goals as goal

pub returns-clause-body : goal.returns-clause-body
returns-clause-body c = c.in_ok-vec.ensures.items_if_clones_equal (λ y is. is)
