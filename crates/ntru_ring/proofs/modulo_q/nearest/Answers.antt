use Rattle.std.proofs.Common.{sym, subst}
use Rattle.ntru_ring.specs.Reduction.{IsWithin}
use Rattle.ntru_ring.proofs.Vectors.Lanes3.{nearest_stored}
use Rattle.ntru_ring.proofs.Numbers.Rounds.{nearest_within}
use Rattle.ntru_ring.proofs.modulo_q.nearest.Goals as goal

pub returns-clause-value : goal.returns-clause-value
returns-clause-value c = nearest_stored c.args.z c.centred_three.result c.requires c.centred_three.ensures.value

pub returns-clause-within : goal.returns-clause-within
returns-clause-within c = subst (IsWithin 2295) (sym (nearest_stored c.args.z c.centred_three.result c.requires c.centred_three.ensures.value)) (nearest_within c.args.z c.requires)
