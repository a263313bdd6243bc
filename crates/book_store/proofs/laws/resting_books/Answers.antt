use Rattle.pages.proofs.Shots.{shot_still}
use Rattle.book_store.proofs.Books.Readings.{has}
use Rattle.book_store.specs.AtRest.{laid_book}
use Rattle.book_store.specs.Layout.{book_layout}
use Rattle.book_store.specs.Rows.{book_names}
use Rattle.book_store.proofs.laws.resting_books.Goals as goal

pub returns : goal.returns
returns g = λ rows mark book c rests. has rows mark book rests.marked c
    (shot_still book_names (book_layout rows) c (laid_book mark book) rests.laid_out.still)
