-- The number that follows a number.
use Rattle.std.proofs.Common.{◌≡◌, ◌∙◌, ℕ, ◌+◌, ◌%◌, ◌*◌, ◌^◌, ap}
use Rattle.std.proofs.Math.Nat.{mod-add-mod, mul_comm}

-- the wrapping product and sum
pub number_is : (x a b : ℕ) → ((x * a) % 2 ^ 64 + b) % 2 ^ 64 ≡ (a * x + b) % 2 ^ 64
number_is x a b = mod-add-mod (x * a) (2 ^ 64) b ∙ ap (λ n. (n + b) % 2 ^ 64) (mul_comm x a)
