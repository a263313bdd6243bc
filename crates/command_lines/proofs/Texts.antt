-- The text of a source, read as a value.
use Rattle.std.proofs.Common.{List, None, Option, Some, length, subst, ℕ, ◌≡◌, ◌≤◌}
use Rattle.std.specs.Prelude.{IfSome}

-- what was read is what the source held, where that is told
pub text_as : (parse : List ℕ → Option (List ℕ)) (limit : ℕ) (from : Option (List ℕ)) (bytes : List ℕ) (value : Option (List ℕ))
    → IfSome from (λ text. bytes ≡ text) → length bytes ≤ limit → parse bytes ≡ value
    → IfSome from (λ text. (length text ≤ limit) × (parse text ≡ value))
text_as parse limit None bytes value same fits reads = tt
text_as parse limit (Some text) bytes value same fits reads =
    subst (λ t. (length t ≤ limit) × (parse t ≡ value)) same (fits, reads)
