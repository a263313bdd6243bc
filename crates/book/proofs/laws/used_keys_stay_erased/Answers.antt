use Rattle.client.proofs.Spending.{erased_later}
use Rattle.book.specs.RowCells.{row_cell}
use Rattle.book.proofs.laws.used_keys_stay_erased.Goals as goal

pub returns : goal.returns
returns g c =
    λ rows name k side first known. erased_later (row_cell rows name) g.D.Disk.state c.args.moments.now k side first
    known (c.erasure.ensures k)
