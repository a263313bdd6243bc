use Rattle.client.specs.Cells.{client_cell}
use Rattle.client.proofs.Spending.{erased_later}
use Rattle.client.proofs.laws.used_keys_stay_erased.Goals as goal

pub returns : goal.returns
returns g c =
    λ k side first known. erased_later client_cell g.D.Disk.state c.args.moments.now k side first
    known (c.erasure.ensures k)
