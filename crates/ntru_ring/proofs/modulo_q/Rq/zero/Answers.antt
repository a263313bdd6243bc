use Rattle.std.proofs.Common.{refl, pos}
use Rattle.std.proofs.lemmas.List.Elements.{All-replicate}
use Rattle.ntru_ring.specs.Ring.{zero_of}
use Rattle.ntru_ring.specs.Reduction.{IsWithin}
use Rattle.ntru_ring.proofs.Numbers.Ranges.{within_zero}
use Rattle.ntru_ring.proofs.modulo_q.Rq.zero.Goals as goal

pub invariant_of-result : goal.invariant_of-result
invariant_of-result c = record { length = refl; within = All-replicate (IsWithin 2295) 761 (pos 0) (within_zero 2295) }

pub returns : goal.returns
unfolding zero_of
returns c = refl
