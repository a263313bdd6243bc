use Rattle.book.proofs.Kept.{row_holds}
use Rattle.book.proofs.shelf.ShelfKeeper.holds.Goals as goal

pub returns : goal.returns
returns g c = λ disk. row_holds c.resting_books.ensures (g.D.Disk.state disk)
