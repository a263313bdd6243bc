-- When two positions are the same.
use Rattle.std.proofs.Common.{◌≡◌, ℕ, true, arith, ap₂}
use Rattle.std.proofs.lemmas.Bool.Decides.{nat_tests}
use Rattle.dr_base.specs.Position.{is_at}
use Rattle.dr_base.specs.declared.position.Position.{Position}

-- those that the test finds alike
pub is_at-same : (p q : Position) → is_at p q ≡ true → q ≡ p
is_at-same p q h =
    let epoch : q.epoch ≡ p.epoch = grind (arith, nat_tests) in
    let index : q.index ≡ p.index = grind (arith, nat_tests) in
    let make : ℕ → ℕ → Position = λ e i. record { epoch = e; index = i } in
    ap₂ make epoch index

-- each is the same as itself
pub is_at-itself : (p : Position) → is_at p p ≡ true
is_at-itself p = grind (arith, nat_tests)
