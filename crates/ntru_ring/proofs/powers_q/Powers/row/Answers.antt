use Rattle.std.proofs.Common.{◌≡◌, ◌+◌, ◌-◌, ap, arith, take, drop}
use Rattle.ntru_ring.proofs.powers_q.Powers.row.Goals as goal

pub returns : goal.returns
returns c =
    let start = c.args.start in
    let e : start + 761 - start ≡ 761 = omega arith in
    ap (λ t. take t (drop start c.args.self.now.places)) e
