use Rattle.std.proofs.Common.{refl, arith}
use Rattle.ntru_ring.proofs.Rings.Places.{within_places}
use Rattle.ntru_ring.proofs.modulo_q.Rq.is_small.Goals as goal

pub returns : goal.returns
returns c = (λ is. within_places 1 c.args.self.now.coefficients (λ j h. c.loop-k.invariant j (omega arith)), λ all. refl)
