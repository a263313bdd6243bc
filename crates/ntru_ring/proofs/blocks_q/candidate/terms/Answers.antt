use Rattle.std.proofs.Common.{sym, subst, pos}
use Rattle.std.proofs.lemmas.List.{get_or-replicate}
use Rattle.ntru_ring.specs.Reduction.{IsWithin}
use Rattle.ntru_ring.proofs.Numbers.Ranges.{within_zero}
use Rattle.ntru_ring.proofs.blocks_q.candidate.terms.Goals as goal

pub loop-k-init : goal.loop-k-init
loop-k-init c k d h = subst (IsWithin 2295) (sym (get_or-replicate 761 k (pos 0) d h)) (within_zero 2295)

pub new-requires : goal.new-requires
new-requires c = c.loop-k.invariant
