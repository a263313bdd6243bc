use Rattle.std.proofs.Common.{◌≡◌, ◌+◌, ◌%◌, ◌<◌, ℕ, pos, arith, nat_abs, ◌+ℤ◌, ◌-ℤ◌, to_z, of_z, sym, ap, ◌∙◌, subst}
use Rattle.std.proofs.lemmas.Int.{ints}
use Rattle.ntru_ring.specs.Reduction.{centred, IsWithin}
use Rattle.ntru_ring.proofs.Numbers.Centred.{centred_within}
use Rattle.ntru_ring.proofs.Numbers.Units.{inverse_is, representative_is, residue_is}
use mir.Syntax.{w16, w32}
use lib.Signed.{rem_z}
use Rattle.ntru_ring.proofs.units_q.inverse_of.Goals as goal

-- the result, from the number below 4591
result_is : (p : ℕ) → p < 4591 → to_z w16 (of_z w16 (to_z w32 (of_z w32 (to_z w32 (of_z w32 (rem_z (to_z w32 (of_z w32 (to_z w32 p +ℤ pos 2295))) (pos 4591))) -ℤ pos 2295)))) ≡ centred 2295 (pos p)
result_is p l =
    let e : to_z w16 (of_z w16 (to_z w32 (of_z w32 (to_z w32 (of_z w32 (rem_z (to_z w32 (of_z w32 (to_z w32 p +ℤ pos 2295))) (pos 4591))) -ℤ pos 2295)))) ≡ pos ((p + 2295) % 4591) -ℤ pos 2295 = omega (arith, ints) in
    e ∙ representative_is p

pub returns-clause-value : goal.returns-clause-value
returns-clause-value c =
    let z = c.args.c in
    let w = c.requires.within in
    let f = c.ranges.c in
    let r = c.from.ensures in
    let x : ℕ = nat_abs (to_z w32 (of_z w32 (rem_z (to_z w32 (of_z w32 (to_z w32 (of_z w32 c.from.result) +ℤ pos 4591))) (pos 4591)))) in
    let e : pos x ≡ rem_z (z +ℤ pos 4591) (pos 4591) = omega (arith, ints, w.low, w.high) in
    let d = residue_is z x w e in
    inverse_is z _ x w c.requires.nonzero d.0 d.1 (result_is c.power-inverse.result c.power-inverse.ensures.below ∙ ap (λ t. centred 2295 (pos t)) c.power-inverse.ensures.value)

pub returns-clause-within : goal.returns-clause-within
returns-clause-within c =
    subst (IsWithin 2295) (sym (result_is c.power-inverse.result c.power-inverse.ensures.below)) (centred_within 2295 (pos c.power-inverse.result))
