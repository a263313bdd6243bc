use Rattle.std.proofs.Common.{ap, ◌∙◌, arith, add-one}
use Rattle.ntru_ring.specs.Ring.{times, one_of}
use Rattle.ntru_ring.specs.Reduction.{reduced}
use Rattle.ntru_ring.proofs.Rings.Algebra.{plus_comm, plus_assoc, times-plus, times-scale}
use Rattle.ntru_ring.proofs.Rings.Unit.{times_comm, times_assoc, times_one}
use Rattle.ntru_ring.proofs.Rings.Congruence.{reduced-plus, reduced-reduced, reduced-scale, reduced-shift, times_same}
use Rattle.ntru_ring.proofs.Rings.Bound.{times_within}
use Rattle.ntru_ring.proofs.Eliminating.Uniqueness.{no_inverse, inverse_unique}
use Rattle.ntru_ring.proofs.theory.laws.Goals as goal

pub returns-clause-sum_commutative : goal.returns-clause-sum_commutative
returns-clause-sum_commutative c = plus_comm

pub returns-clause-sum_associative : goal.returns-clause-sum_associative
returns-clause-sum_associative c = plus_assoc

pub returns-clause-commutative : goal.returns-clause-commutative
returns-clause-commutative c = times_comm

pub returns-clause-associative : goal.returns-clause-associative
returns-clause-associative c = times_assoc

pub returns-clause-distributive : goal.returns-clause-distributive
returns-clause-distributive c = times-plus

pub returns-clause-scaled : goal.returns-clause-scaled
returns-clause-scaled c = λ k a b. times-scale a k b

pub returns-clause-unit : goal.returns-clause-unit
returns-clause-unit c = λ n a e. ap (λ t. times a (one_of t)) (add-one n) ∙ times_one a n (omega (arith, e))

pub returns-clause-sum_congruent : goal.returns-clause-sum_congruent
returns-clause-sum_congruent c = λ h a b. reduced-plus h (reduced h a) a (reduced h b) b (reduced-reduced h a) (reduced-reduced h b)

pub returns-clause-scale_congruent : goal.returns-clause-scale_congruent
returns-clause-scale_congruent c = reduced-scale

pub returns-clause-shift_congruent : goal.returns-clause-shift_congruent
returns-clause-shift_congruent c = reduced-shift

pub returns-clause-product_congruent : goal.returns-clause-product_congruent
returns-clause-product_congruent c = λ h a b. times_same h (reduced h a) a (reduced h b) b (reduced-reduced h a) (reduced-reduced h b)

pub returns-clause-bounded : goal.returns-clause-bounded
returns-clause-bounded c = times_within

pub returns-clause-unique : goal.returns-clause-unique
returns-clause-unique c = λ h n g v w lg lv lw. inverse_unique h n g v w (lg ∙ add-one n) (lv ∙ add-one n) (lw ∙ add-one n)

pub returns-clause-no_inverse : goal.returns-clause-no_inverse
returns-clause-no_inverse c = λ h n g v z lg lv lz. no_inverse h n g v z (lg ∙ add-one n) (lv ∙ add-one n) (lz ∙ add-one n)
