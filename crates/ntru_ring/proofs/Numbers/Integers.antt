-- Laws of the integers that the kit lacks: the product is associative and distributes over the sum.
use Rattle.std.proofs.Common.{◌≡◌, ◌∙◌, ap, sym, ◌*◌, ℤ, pos, negsuc, neg_ℤ, ◌≤ℤ◌, ◌+ℤ◌, ◌-ℤ◌, ◌*ℤ◌, arith}
use Rattle.std.proofs.lemmas.Int.{ints}
use Rattle.std.proofs.Math.IntN.{*ℤ_comm}
use borrow.Author.Differences.{up, down, product_is, sum_is_lem}
use lib.Signed.{shr_z, ◌<ℤ◌}

pub *ℤ-+ℤ : (a b c : ℤ) → a *ℤ (b +ℤ c) ≡ a *ℤ b +ℤ a *ℤ c
*ℤ-+ℤ a b c =
    let e = ap (λ t. up a * t) (sum_is_lem b c) in
    let f = ap (λ t. down a * t) (sum_is_lem b c) in
    omega (arith, ints)

pub +ℤ-*ℤ : (a b c : ℤ) → (a +ℤ b) *ℤ c ≡ a *ℤ c +ℤ b *ℤ c
+ℤ-*ℤ a b c =
    let e = ap (λ t. up c * t) (sum_is_lem a b) in
    let f = ap (λ t. down c * t) (sum_is_lem a b) in
    omega (arith, ints)

pub *ℤ_assoc : (a b c : ℤ) → (a *ℤ b) *ℤ c ≡ a *ℤ (b *ℤ c)
*ℤ_assoc a b c =
    let e = ap (λ t. t * up c) (product_is a b).0 in
    let f = ap (λ t. t * down c) (product_is a b).0 in
    let g = ap (λ t. t * up c) (product_is a b).1 in
    let h = ap (λ t. t * down c) (product_is a b).1 in
    let i = ap (λ t. up a * t) (product_is b c).0 in
    let j = ap (λ t. up a * t) (product_is b c).1 in
    let k = ap (λ t. down a * t) (product_is b c).0 in
    let l = ap (λ t. down a * t) (product_is b c).1 in
    omega (arith, ints)

pub *ℤ_swap : (a b c : ℤ) → a *ℤ (b *ℤ c) ≡ b *ℤ (a *ℤ c)
*ℤ_swap a b c = sym (*ℤ_assoc a b c) ∙ ap (λ t. t *ℤ c) (*ℤ_comm a b) ∙ *ℤ_assoc b a c

pub +ℤ_middle : (a b c d : ℤ) → (a +ℤ b) +ℤ (c +ℤ d) ≡ (a +ℤ c) +ℤ (b +ℤ d)
+ℤ_middle a b c d = omega (arith, ints)

pub minus_one : (x : ℤ) → neg_ℤ x ≡ negsuc 0 *ℤ x
minus_one x = omega (arith, ints)

pub minus_product : (x f y : ℤ) → x -ℤ f *ℤ y ≡ x +ℤ neg_ℤ f *ℤ y
minus_product x f y = ap (λ t. x +ℤ t) (minus_one (f *ℤ y) ∙ sym (*ℤ_assoc (negsuc 0) f y) ∙ ap (λ t. t *ℤ y) (sym (minus_one f)))

-- a shift by 16 bits rounds down
pub shr_low : (z : ℤ) → (pos 65536 *ℤ shr_z z 65536) ≤ℤ z
shr_low (pos a) = omega (arith, ints)
shr_low (negsuc a) = omega (arith, ints)

pub shr_high : (z : ℤ) → z <ℤ (pos 65536 *ℤ shr_z z 65536 +ℤ pos 65536)
shr_high (pos a) = omega (arith, ints)
shr_high (negsuc a) = omega (arith, ints)
