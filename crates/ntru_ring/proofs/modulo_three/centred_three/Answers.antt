use Rattle.std.proofs.Common.{◌≡◌, ◌+◌, ◌-◌, ◌*◌, ◌%◌, ℕ, pos, arith, ℤ, nat_abs, ◌+ℤ◌, ◌-ℤ◌, to_z, of_z, sym, ap, ◌∙◌, subst}
use Rattle.std.proofs.lemmas.Int.{ints}
use Rattle.ntru_ring.specs.Reduction.{centred, IsWithin}
use Rattle.ntru_ring.proofs.Numbers.Centred.{centred_is, centred_within}
use borrow.Author.Differences.{up, down}
use mir.Syntax.{w16, w32}
use Rattle.ntru_ring.proofs.modulo_three.centred_three.Goals as goal

rest : (m : ℕ) → to_z w16 (of_z w16 (to_z w16 (m % 3) -ℤ pos 1)) ≡ pos (m % 3) -ℤ pos 1
rest m = omega (arith, ints)

value : (z r : ℤ) → IsWithin 32766 z → r ≡ to_z w16 (of_z w16 z)
    → to_z w16 (of_z w16 (to_z w16 (nat_abs (to_z w32 (of_z w32 (to_z w32 (of_z w32 r) +ℤ pos 32767))) % 3) -ℤ pos 1)) ≡ centred 1 z
value z r w e =
    let m : ℕ = up z + 32767 - down z in
    let f : z +ℤ pos 1 +ℤ pos (10922 * (2 * 1 + 1)) ≡ pos m = omega (arith, ints, w.low, w.high) in
    let c = centred_is 1 z 10922 m f in
    let n : nat_abs (to_z w32 (of_z w32 (to_z w32 (of_z w32 r) +ℤ pos 32767))) ≡ m = omega (arith, ints, w.low, w.high, e) in
    ap (λ t. to_z w16 (of_z w16 (to_z w16 (t % 3) -ℤ pos 1))) n ∙ rest m ∙ sym c

pub overflow_cast-result : goal.overflow_cast-result
overflow_cast-result c =
    let w = c.requires in (omega (arith, ints, w.low, w.high, c.from.ensures), omega (arith, ints, w.low, w.high, c.from.ensures))

pub returns-clause-value : goal.returns-clause-value
returns-clause-value c = value c.args.z c.from.result c.requires c.from.ensures

pub returns-clause-within : goal.returns-clause-within
returns-clause-within c = subst (IsWithin 1) (sym (value c.args.z c.from.result c.requires c.from.ensures)) (centred_within 1 c.args.z)
