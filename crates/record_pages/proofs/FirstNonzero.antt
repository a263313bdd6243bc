-- The first byte that isn't zero.
use Rattle.std.proofs.Common.{◌≡◌, ◌≢◌, ℕ, zero, suc, ◌+◌, ◌<◌, true, false, List, [], ◌∷◌, length, drop, get_or, Some, refl, ◌∙◌, ap, arith, if◌then◌else◌}
use Rattle.std.specs.Prelude.{◌==◌}
use Rattle.std.proofs.lemmas.Bool.Decides.{nat_tests}
use Rattle.record_pages.specs.Tables.{nonzero_from}

at_place : (bytes : List ℕ) (from at : ℕ) → at < length bytes
    → nonzero_from from (drop at bytes) ≡ (if get_or bytes at 0 == 0 then nonzero_from (from + 1) (drop (at + 1) bytes) else Some from)
at_place [] from at lt = absurd (omega arith)
at_place (b ∷ rest) from zero lt = refl
at_place (b ∷ rest) from (suc at) lt =
    at_place rest from at (omega arith)
    ∙ ap (λ n. if get_or rest at 0 == 0 then nonzero_from (from + 1) (drop n (b ∷ rest)) else Some from) (let e : suc (at + 1) ≡ suc at + 1 = omega arith in e)

pub goes_on : (bytes : List ℕ) (from at : ℕ) → at < length bytes → get_or bytes at 0 ≡ 0
    → nonzero_from (from + at) (drop at bytes) ≡ nonzero_from (from + (at + 1)) (drop (at + 1) bytes)
goes_on bytes from at lt is =
    at_place bytes (from + at) at lt
    ∙ ap (λ t. if t then nonzero_from (from + at + 1) (drop (at + 1) bytes) else Some (from + at)) (let e : (get_or bytes at 0 == 0) ≡ true = grind (arith, nat_tests) in e)
    ∙ ap (λ n. nonzero_from n (drop (at + 1) bytes)) (let e : from + at + 1 ≡ from + (at + 1) = omega arith in e)

pub ends : (bytes : List ℕ) (from at : ℕ) → at < length bytes → get_or bytes at 0 ≢ 0 → nonzero_from (from + at) (drop at bytes) ≡ Some (from + at)
ends bytes from at lt isnt =
    at_place bytes (from + at) at lt
    ∙ ap (λ t. if t then nonzero_from (from + at + 1) (drop (at + 1) bytes) else Some (from + at)) (let e : (get_or bytes at 0 == 0) ≡ false = grind (arith, nat_tests) in e)
