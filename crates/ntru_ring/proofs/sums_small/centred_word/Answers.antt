use Rattle.std.proofs.Common.{arith, sym, subst}
use Rattle.std.proofs.lemmas.Grind.{common_steps}
use Rattle.ntru_ring.specs.Reduction.{IsWithin}
use Rattle.ntru_ring.proofs.Numbers.Centred.{centred_within}
use Rattle.ntru_ring.proofs.Vectors.WordsQ.{rest_kept, rest_lowered}
use Rattle.ntru_ring.proofs.sums_small.centred_word.Goals as goal

pub returns-then-rest-gt2295-clause-value : goal.returns-then-rest-gt2295-clause-value
returns-then-rest-gt2295-clause-value c = rest_lowered c.args.z c.from.result c.ranges.z c.from.ensures c.if-rest-gt2295.true

pub returns-then-rest-gt2295-clause-within : goal.returns-then-rest-gt2295-clause-within
returns-then-rest-gt2295-clause-within c =
    subst (IsWithin 2295) (sym (rest_lowered c.args.z c.from.result c.ranges.z c.from.ensures c.if-rest-gt2295.true)) (centred_within 2295 c.args.z)

pub returns-clause-value : goal.returns-clause-value
returns-clause-value c = rest_kept c.args.z c.from.result c.ranges.z c.from.ensures c.if-rest-gt2295.false

pub returns-clause-within : goal.returns-clause-within
returns-clause-within c = subst (IsWithin 2295) (sym (rest_kept c.args.z c.from.result c.ranges.z c.from.ensures c.if-rest-gt2295.false)) (centred_within 2295 c.args.z)

pub overflow_sub-rest : goal.overflow_sub-rest
overflow_sub-rest c = grind (arith, common_steps)
