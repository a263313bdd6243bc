use Rattle.std.proofs.Common.{◌≡◌, ◌+◌, ◌-◌, ◌*◌, ◌%◌, ℕ, pos, arith, ℤ, nat_abs, ◌+ℤ◌, ◌-ℤ◌, to_z, of_z, sym, ap, ◌∙◌, subst}
use Rattle.std.proofs.lemmas.Int.{ints}
use Rattle.ntru_ring.specs.Reduction.{centred, IsWithin}
use Rattle.ntru_ring.proofs.Numbers.Centred.{centred_is, centred_within}
use borrow.Author.Differences.{up, down}
use mir.Syntax.{w16, w32, w64}
use Rattle.ntru_ring.proofs.sums_q.centred_q.Goals as goal

rest : (m : ℕ) → to_z w16 (of_z w16 (to_z w32 (of_z w32 (to_z w32 (m % 4591) -ℤ pos 2295)))) ≡ pos (m % 4591) -ℤ pos 2295
rest m = omega (arith, ints)

value : (z r : ℤ) → IsWithin 2147479273 z → r ≡ to_z w32 (of_z w32 z)
    → to_z w16 (of_z w16 (to_z w32 (of_z w32 (to_z w32 (nat_abs (to_z w64 (of_z w64 (to_z w64 (of_z w64 r) +ℤ pos 2147479273))) % 4591) -ℤ pos 2295)))) ≡ centred 2295 z
value z r w e =
    let m : ℕ = up z + 2147479273 - down z in
    let f : z +ℤ pos 2295 +ℤ pos (467758 * (2 * 2295 + 1)) ≡ pos m = omega (arith, ints, w.low, w.high) in
    let c = centred_is 2295 z 467758 m f in
    let n : nat_abs (to_z w64 (of_z w64 (to_z w64 (of_z w64 r) +ℤ pos 2147479273))) ≡ m = omega (arith, ints, w.low, w.high, e) in
    ap (λ t. to_z w16 (of_z w16 (to_z w32 (of_z w32 (to_z w32 (t % 4591) -ℤ pos 2295))))) n ∙ rest m ∙ sym c

pub overflow_cast-result : goal.overflow_cast-result
overflow_cast-result c =
    let w = c.requires in (omega (arith, ints, w.low, w.high, c.from.ensures), omega (arith, ints, w.low, w.high, c.from.ensures))

pub returns-clause-value : goal.returns-clause-value
returns-clause-value c = value c.args.z c.from.result c.requires c.from.ensures

pub returns-clause-within : goal.returns-clause-within
returns-clause-within c = subst (IsWithin 2295) (sym (value c.args.z c.from.result c.requires c.from.ensures)) (centred_within 2295 c.args.z)
